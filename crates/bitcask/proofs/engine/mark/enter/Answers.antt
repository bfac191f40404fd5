-- `enter`: the sizes, and then the count.
use mathlib.Core.Path.{refl}
use Rattle.bitcask.proofs.engine.SpotLaws.{enter_bad, enter_in}
use Rattle.bitcask.proofs.engine.ViewLaws.{mark_held, viewed_none, viewed_of}
use Rattle.std.proofs.lemmas.Bool.{not_from_true, not_from_false}
use Rattle.bitcask.proofs.engine.mark.enter.Goals as goal

pub returns-then-not-fits : goal.returns-then-not-fits
returns-then-not-fits c =
    let a = c.args in
    record {
      mark = enter_bad a.log.now a.used a.table.now _ c.fits.ensures (not_from_false _ c.if-not-fits.true);
      view = viewed_none _;
    }

pub invariant_of-result : goal.invariant_of-result
invariant_of-result c =
    let a = c.args in
    record { held = mark_held a.log.now a.used a.table.now _ c.fits.ensures (not_from_true _ c.if-not-fits.false) _ c.count.ensures }

pub returns : goal.returns
returns c =
    let a = c.args in
    record {
      mark = enter_in a.log.now a.used a.table.now _ c.fits.ensures (not_from_true _ c.if-not-fits.false) _ c.count.ensures;
      view = viewed_of (record { log_is = refl; table_is = refl; mark_is = refl });
    }
