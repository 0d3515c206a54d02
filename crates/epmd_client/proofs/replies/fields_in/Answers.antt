use Prim.Native.Nat.{ℕ, ◌+◌}
use mathlib.Core.Path.{◌≡◌, sym, ap, ◌∙◌}
use Rattle.wire.specs.Number.{be_at}
use Rattle.epmd_client_rules.proofs.ReplyLaws.{name_length, extra_length}
use Rattle.epmd_client.proofs.replies.fields_in.Goals as goal

pub returns : goal.returns
returns c =
    let b = c.args.reply.now in
    let whole = c.requires in
    let n1 = c.get-nlen.ensures in
    let g = c.get-elen in
    let n2 : g.result ≡ be_at 2 (12 + be_at 2 10 b) b = g.ensures ∙ ap (λ (k : ℕ). be_at 2 (12 + k) b) n1 in
    let nl = n1 ∙ sym (name_length b whole) in
    let xl = n2 ∙ sym (extra_length b whole) in
    let p = c.get.ensures in
    let k = c.get-2.ensures in
    let o = c.get-3.ensures in
    let h = c.get-4.ensures in
    let l = c.get-5.ensures in
    λ i. record { port = p i; kind = k i; protocol = o i; highest = h i; lowest = l i; name = record { at = 12; len = nl i }; extra = record { at = 12 + nl i + 2; len = xl i } }
