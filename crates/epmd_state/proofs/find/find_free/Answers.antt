use Rattle.std.proofs.Common.{rules, tests, ◌∙◌, ℕ, List}
use Rattle.std.proofs.lemmas.Iterator.{YieldsList-from_slice}
use Rattle.std.proofs.lemmas.Iterator.Search.{position_from_yields_List}
use Rattle.epmd_rules.specs.Registration.{is_free}
use Rattle.epmd_rules.specs.Registry.{lowest_free}
use Rattle.epmd_state.specs.Bytes.{entry_by}
use Rattle.epmd_state.proofs.BytesLaws.{found_first}
use Rattle.epmd_state.proofs.find.find_free.Goals as goal

pub returns : goal.returns
unfolding lowest_free
returns c =
    let k = c.records.ensures in
    position_from_yields_List (λ (r : List ℕ). is_free (entry_by r)) _ _ c.position.result c.position.ensures.ran
    (YieldsList-from_slice c.records.result.now cc) (λ x b q k. search (rules, tests))
    ∙ found_first is_free c.args.state.now c.records.result.now k.result_value k.result_len
