use mathlib.Core.Bool.{cond}
use mathlib.Core.Path.{refl, sym, ap, ◌∙◌}
use native.Mathlib.Omega.{arith}
use lib.Dec.{eqb}
use Rattle.std.specs.Prelude.{Ok}
use Rattle.epmd_client_rules.specs.declared.reply.Alive2Reply.{Alive2Reply}
use Rattle.epmd_client_rules.specs.declared.reply.Alive2Reply.TheVariants.{Registered, Failed}
use Rattle.epmd_client_rules.specs.Replies.{result_in}
use Rattle.epmd_client_rules.proofs.ReplyLaws.{alive2_told_lem}
use Rattle.epmd_client.proofs.replies.read_alive2.Goals as goal

pub returns-in-118 : goal.returns-in-118
returns-in-118 c =
    let b = c.args.reply.now in
    let t = c.in-118.is in
    let told = alive2_told_lem b (omega arith) 118 (sym c.get-tag.ensures ∙ t) refl c.if-n-eq-LONG.true in
    let k = c.get-creation.ensures in
    ap (λ (r : Alive2Reply). Ok r) c.alive2_told.ensures ∙ (λ i. Ok (cond (eqb (result_in b) 0) (Registered (t i) (k i)) (Failed (t i) (result_in b)))) ∙ sym told

pub returns-in-121 : goal.returns-in-121
returns-in-121 c =
    let b = c.args.reply.now in
    let t = c.in-121.is in
    let told = alive2_told_lem b (omega arith) 121 (sym c.get-tag.ensures ∙ t) refl c.if-n-eq-SHORT.true in
    let k = c.get-creation-in-121.ensures in
    ap (λ (r : Alive2Reply). Ok r) c.alive2_told-in-121.ensures ∙ (λ i. Ok (cond (eqb (result_in b) 0) (Registered (t i) (k i)) (Failed (t i) (result_in b)))) ∙ sym told
