use Rattle.std.proofs.Common.{rules, ◌≡◌, None, ◌+◌, ◌<◌, ◌≤◌, length, le-leb}
use Rattle.std.proofs.lemmas.Bool.{lt-leb}
use Rattle.cases.specs.Record.{record_at}
use Rattle.cases.proofs.record.find.Goals as goal

pub returns-in_err-get-clause-value : goal.returns-in_err-get-clause-value
unfolding record_at
returns-in_err-get-clause-value c =
    let h : length c.args.input.now < c.args.at + 2 = search rules in
    let e : record_at c.args.input.now c.args.at ≡ None = simp (lt-leb _ _ h) in
    search (rules, e)

pub returns-then-branch-lt2-clause-value : goal.returns-then-branch-lt2-clause-value
unfolding record_at
returns-then-branch-lt2-clause-value c =
    let h : length c.args.input.now < c.args.at + 2 = search rules in
    simp (lt-leb _ _ h)

pub returns-then-input-end-clause-value : goal.returns-then-input-end-clause-value
unfolding record_at
returns-then-input-end-clause-value c =
    let a = c.args in
    let e = c.get-size.ensures in
    let h : a.at + 2 ≤ length a.input.now = search rules in
    let l : length a.input.now < a.at + 2 + c.get-size.result = search rules in
    simp (le-leb _ _ h, lt-leb _ _ (rw e at l))

pub returns-clause-value : goal.returns-clause-value
unfolding record_at
returns-clause-value c =
    let a = c.args in
    let e = c.get-size.ensures in
    let h : a.at + 2 ≤ length a.input.now = search rules in
    let l : a.at + 2 + c.get-size.result ≤ length a.input.now = search rules in
    simp (le-leb _ _ h, le-leb _ _ (rw e at l), e)
