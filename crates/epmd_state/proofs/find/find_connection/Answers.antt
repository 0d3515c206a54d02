use Rattle.std.proofs.Common.{rules, tests, ◌∙◌, ℕ, List}
use Rattle.std.proofs.lemmas.Iterator.{YieldsList-from_slice}
use Rattle.std.proofs.lemmas.Iterator.Search.{position_from_yields_List}
use Rattle.epmd_rules.specs.Registration.{has_connection}
use Rattle.epmd_rules.specs.Registry.{by_connection}
use Rattle.epmd_state.specs.Bytes.{entry_by}
use Rattle.epmd_state.proofs.BytesLaws.{found_first}
use Rattle.epmd_state.proofs.find.find_connection.Goals as goal

pub returns : goal.returns
unfolding by_connection
returns c =
    let k = c.records.ensures in
    position_from_yields_List (λ (r : List ℕ). has_connection c.args.c (entry_by r)) _ _ c.position.result c.position.ensures.ran
    (YieldsList-from_slice c.records.result.now cc) (λ x b q k. search (rules, tests))
    ∙ found_first (has_connection c.args.c) c.args.state.now c.records.result.now k.result_value k.result_len
