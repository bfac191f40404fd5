-- `next_version_code`: the code of NextVersion.
use mathlib.Core.List.{[]}
use native.Mathlib.Omega.{arith}
use Rattle.std.proofs.Common.{rules}
use Rattle.keycode.specs.key.Keys.{encode, next_version}
use Rattle.keycode.proofs.code.CodeLaws.{code_coded, next_fits}
use Rattle.keycode.proofs.code.next_version_code.Goals as goal

pub returns : goal.returns
returns c = let w = c.coded.ensures in code_coded [] (encode next_version) w.1 w.0 (omega arith) next_fits (search rules) w.3
