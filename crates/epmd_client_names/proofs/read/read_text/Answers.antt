use mathlib.Core.Path.{sym, ◌∙◌}
use native.Mathlib.Omega.{arith}
use Rattle.std.proofs.lemmas.Result.{err_from_is_err_and}
use Rattle.epmd_client_names.proofs.ReplyLaws.{told_none, told_refused, told_listed, told_walked, too_long}
use Rattle.epmd_client_names.proofs.read.read_text.Goals as goal

pub returns-then-s-gt-MOST : goal.returns-then-s-gt-MOST
returns-then-s-gt-MOST c =
    let a = c.args in
    told_none a.own (omega arith) a.s.now (too_long a.s.now c.if-s-gt-MOST.true)

pub returns-in_err-count : goal.returns-in_err-count
returns-in_err-count c =
    let a = c.args in
    let p = err_from_is_err_and c.from_residual.result c.from_residual.ensures.1 in
    rw (p.1, p.2) (told_refused a.own (omega arith) a.s.now _ (c.fill.ensures 0 (omega arith) (omega arith)) _ (sym c.verdict.ensures ∙ c.in_err-count.was))

pub walk-lines-requires : goal.walk-lines-requires
walk-lines-requires c =
    let a = c.args in
    let z = told_listed a.own (omega arith) a.s.now _ (c.fill.ensures 0 (omega arith) (omega arith)) c.in_ok-count.count (sym c.verdict.ensures ∙ c.in_ok-count.was) in
    record {
      room = record { fits = omega arith; long = omega arith };
      rows = c.fill.ensures;
      high = z.few;
      lead = (z.lines, z.lead);
    }

pub returns : goal.returns
returns c =
    let a = c.args in
    let z = told_listed a.own (omega arith) a.s.now _ (c.fill.ensures 0 (omega arith) (omega arith)) c.in_ok-count.count (sym c.verdict.ensures ∙ c.in_ok-count.was) in
    told_walked a.own (omega arith) a.s.now c.in_ok-count.count z c.walk-lines.result c.walk-lines.ensures
