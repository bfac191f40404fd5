-- The numbers of the refusals of a row, and what reading a value from the front of bytes gives. Assumes nothing.
use Rattle.std.specs.Prelude.{ℕ, List}
use Rattle.codecs.specs.declared.fields.Denial.{Denial}
use Rattle.codecs.specs.declared.fields.Denial.TheVariants.{BadKey, BadRequest, BadFlag, BadText}

abbrev pub denial_number : Denial → ℕ
denial_number BadKey = 12
denial_number BadRequest = 13
denial_number BadFlag = 14
denial_number BadText = 15

-- a value and the bytes behind it, or why there is none
pub data Got (A : Type 0) : Type 0 where
  got : A → List ℕ → Got A
  bad : Denial → Got A

-- the value made another
unfoldable pub map_got : {A B : Type 0} → (A → B) → Got A → Got B
map_got f (got a r) = got (f a) r
map_got f (bad d) = bad d

-- a value before one that was read behind it
unfoldable pub before : {A B : Type 0} → A → Got B → Got (A × B)
before a (got b r) = got (a, b) r
before a (bad d) = bad d

-- two values, one behind the other: the first fault decides
unfoldable pub then_got : {A B : Type 0} → Got A → (List ℕ → Got B) → Got (A × B)
unfolding before
then_got (got a r) f = before a (f r)
then_got (bad d) f = bad d
