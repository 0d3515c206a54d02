-- `character` meets its contract: the bytes of each arm leave, by the table, the ranges that its call tests; antt computes that at each of them.
use mathlib.Core.Path.{◌≡◌, refl, ap, ◌∙◌}
use mathlib.Core.Logic.{⊎_elim}
use mathlib.Core.Bool.{true, false}
use Rattle.std.proofs.Common.{rules}
use mathlib.Core.List.{[], ◌∷◌}
use mathlib.Core.Option.{none, some}
use native.Mathlib.Omega.{arith}
use Rattle.names.specs.Utf8.{◌to◌, has, tail}
use Rattle.names.specs.Node.{found}
use Rattle.names.proofs.Utf8Laws.{length_led, length_one, has_bounds, has_not}
use Rattle.names.proofs.utf8.character.Goals as goal

pub returns-then-b-le127 : goal.returns-then-b-le127
returns-then-b-le127 c =
    let a = c.args in
    ap found (length_one a.rest.now ∙ length_led (some []) 0x00 128 refl a.b a.rest.now (omega arith) (omega arith))

pub returns-then-contains : goal.returns-then-contains
returns-then-contains c =
    let a = c.args in
    let t : has (0xC2 to 0xDF) a.b ≡ true = search rules in
    let h = has_bounds 0xC2 0xDF a.b t in
    c.behind.ensures ∙ ap found (length_led (some (tail ∷ [])) 0xC2 30 refl a.b a.rest.now h.0 (omega arith))

pub returns-then-contains-2 : goal.returns-then-contains-2
returns-then-contains-2 c =
    let a = c.args in
    let t : has (0xE1 to 0xEC) a.b ≡ true = search rules in
    let h = has_bounds 0xE1 0xEC a.b t in
    c.behind-then-contains-2.ensures ∙ ap found (length_led (some (tail ∷ tail ∷ [])) 0xE1 12 refl a.b a.rest.now h.0 (omega arith))

pub returns-in-224 : goal.returns-in-224
returns-in-224 c =
    let a = c.args in
    c.behind-in-224.ensures ∙ ap found (length_led (some (0xA0 to 0xBF ∷ tail ∷ [])) 0xE0 1 refl a.b a.rest.now (omega arith) (omega arith))

pub returns-in-237 : goal.returns-in-237
returns-in-237 c =
    let a = c.args in
    c.behind-in-237.ensures ∙ ap found (length_led (some (0x80 to 0x9F ∷ tail ∷ [])) 0xED 1 refl a.b a.rest.now (omega arith) (omega arith))

pub returns-in-238-to-239 : goal.returns-in-238-to-239
returns-in-238-to-239 c =
    let a = c.args in
    c.behind-in-238-to-239.ensures ∙ ap found (length_led (some (tail ∷ tail ∷ [])) 0xEE 2 refl a.b a.rest.now (omega arith) (omega arith))

pub returns-in-240 : goal.returns-in-240
returns-in-240 c =
    let a = c.args in
    c.behind-in-240.ensures ∙ ap found (length_led (some (0x90 to 0xBF ∷ tail ∷ tail ∷ [])) 0xF0 1 refl a.b a.rest.now (omega arith) (omega arith))

pub returns-in-241-to-243 : goal.returns-in-241-to-243
returns-in-241-to-243 c =
    let a = c.args in
    c.behind-in-241-to-243.ensures ∙ ap found (length_led (some (tail ∷ tail ∷ tail ∷ [])) 0xF1 3 refl a.b a.rest.now (omega arith) (omega arith))

pub returns-in-244 : goal.returns-in-244
returns-in-244 c =
    let a = c.args in
    c.behind-in-244.ensures ∙ ap found (length_led (some (0x80 to 0x8F ∷ tail ∷ tail ∷ [])) 0xF4 1 refl a.b a.rest.now (omega arith) (omega arith))

pub returns-in_default : goal.returns-in_default
returns-in_default c =
    let a = c.args in
    let two : has (0xC2 to 0xDF) a.b ≡ false = search rules in
    let three : has (0xE1 to 0xEC) a.b ≡ false = search rules in
    ⊎_elim
    (λ l. ap found (length_led none 0x80 66 refl a.b a.rest.now (omega arith) (omega arith)))
    (λ l. absurd (⊎_elim (λ m. omega arith) (λ m. omega arith) (has_not 0xE1 0xEC a.b three)))
    (has_not 0xC2 0xDF a.b two)

pub returns-in_default-2 : goal.returns-in_default-2
returns-in_default-2 c = let a = c.args in ap found (length_led none 0xF5 11 refl a.b a.rest.now (omega arith) (omega arith))
