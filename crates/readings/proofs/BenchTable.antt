-- The bench readings P1 to P11 hold: each row computes. Assumes nothing.
use mathlib.Core.Path.{refl}
use Rattle.keycode.specs.Number.{be, num, num_from}
use Rattle.keycode.specs.Order.{compare_nat, compare_bytes}
use Rattle.keycode.specs.Strings.{escape, escape_body, escape_byte, scanned}
use Rattle.keycode.specs.Prefix.{prefix_end, in_front}
use Rattle.bitcask.specs.entry.Length.{signed_of, len_of, length_of}
use Rattle.bitcask.specs.entry.Reading.{word_at, head_at, entry_at}
use Rattle.bitcask.specs.keydir.Slots.{insert_at, remove_at, key_of, value_of}
use Rattle.bitcask.specs.keydir.Place.{place_in}
use Rattle.bitcask.specs.recovery.Recover.{items_of, items, ends, step, fold, recovered, view, map_of}
use Rattle.mvcc.specs.handle.Handles.{memb, set_of, sees, handle_of}
use Rattle.readings.specs.Bench.{p6_log, p8_tail, p9_log, Bench}

pub bench : Bench
unfolding be num num_from compare_nat compare_bytes escape escape_body escape_byte scanned prefix_end in_front signed_of len_of length_of word_at head_at entry_at insert_at remove_at key_of value_of place_in items_of items ends step fold recovered view map_of memb set_of sees handle_of p6_log p8_tail p9_log
bench = record {
  p1 = refl;
  p2 = refl;
  p3 = refl;
  p4 = refl;
  p5 = refl;
  p6 = (refl, refl);
  p7 = (refl, refl);
  p8 = (refl, refl);
  p9 = (refl, (refl, refl));
  p10 = refl;
  p11 = (refl, refl, refl, refl);
  p11_read = (refl, refl);
}
