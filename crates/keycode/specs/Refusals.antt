-- The numbers of the refusals, and the number of an answer that holds a refusal. Assumes nothing.
use Rattle.std.specs.Prelude.{ℕ, Result, Ok, Err}
use Rattle.keycode.specs.declared.refusal.Refusal.{Refusal}
use Rattle.keycode.specs.declared.refusal.Refusal.TheVariants.{Absent, ReadOnly, NotOpen, KeyTooLong, ValueTooLong, Conflict, LogFull, TableFull, TooManyOpen, NoSuchVersion, VersionsSpent, BadStore, BadRequest}

-- the number of a refusal
abbrev pub number_of : Refusal → ℕ
number_of Absent = 1
number_of ReadOnly = 2
number_of NotOpen = 3
number_of KeyTooLong = 4
number_of ValueTooLong = 5
number_of Conflict = 6
number_of LogFull = 7
number_of TableFull = 8
number_of TooManyOpen = 9
number_of NoSuchVersion = 10
number_of VersionsSpent = 11
number_of BadStore = 12
number_of BadRequest = 13

-- the number of an answer that is a length
abbrev pub length_number : Result ℕ Refusal → ℕ
length_number (Ok n) = 0
length_number (Err r) = number_of r
