use mathlib.Core.Path.{refl, ap, ◌∙◌}
use mathlib.Core.List.{List}
use borrow.Author.Tests.{ne_eqb}
use Rattle.epmd_rules.specs.declared.registration.Registration.{Registration}
use Rattle.epmd_rules.specs.Registry.{new_of, fresh}
use Rattle.epmd_state.proofs.BytesLaws.{none_there}
use Rattle.epmd.proofs.calls.make.Goals as goal

pub returns : goal.returns
unfolding new_of fresh
returns c =
    let a = c.args in
    rw (ne_eqb a.first 0 c.if-first-eq0.false)
    (record {
      answer = refl;
      registry = c.put_head.ensures ∙ ap (λ (l : List Registration). record { port = a.port; next = a.first; registrations = l }) (none_there _ refl);
    })
