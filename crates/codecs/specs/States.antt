-- What each state of the code's UTF-8 test still wants, in the table's terms. Assumes nothing.
use Rattle.std.specs.Prelude.{[], ◌∷◌}
use Rattle.codecs.specs.Utf8.{Awaited, await, never, span, tail}
use Rattle.codecs.specs.declared.utf8.State.{State}
use Rattle.codecs.specs.declared.utf8.State.TheVariants.{Start, One, Two, Three, AfterE0, AfterEd, AfterF0, AfterF4, Lost}

abbrev pub awaited_by : State → Awaited
awaited_by Start = await []
awaited_by One = await (tail ∷ [])
awaited_by Two = await (tail ∷ tail ∷ [])
awaited_by Three = await (tail ∷ tail ∷ tail ∷ [])
awaited_by AfterE0 = await (span 160 191 ∷ tail ∷ [])
awaited_by AfterEd = await (span 128 159 ∷ tail ∷ [])
awaited_by AfterF0 = await (span 144 191 ∷ tail ∷ tail ∷ [])
awaited_by AfterF4 = await (span 128 143 ∷ tail ∷ tail ∷ [])
awaited_by Lost = never
