use Rattle.std.proofs.Common.{ℕ, [], take, sym, ap, arith, refl, ◌∙◌}
use Rattle.std.proofs.lemmas.Result.{on_ok_weaker}
use Rattle.std.specs.Io.KnownBytes.{Appends}
use Rattle.script_lines.specs.State.{script_of}
use Rattle.script_lines.specs.Lines.{to_print}
use Rattle.script_lines.proofs.RunLaws.{goes_first, goes_read, goes_end, goes_ended, goes_out}
use Rattle.script_lines.proofs.run.run.Goals as goal

pub loop-read-init : goal.loop-read-init
loop-read-init g c = let r = c.start-reading in goes_first _ _ (script_of r.result.run) r.result.held r.ensures.run r.ensures.held

-- the input has ended: the end prints what is still to be printed
pub returns-then-n-eq0 : goal.returns-then-n-eq0
returns-then-n-eq0 g c =
    let l = c.loop-read in
    let n = c.in_ok-n in
    on_ok_weaker c.finish.result
    (λ (a : Appends (g.W.Write.contents l.to) (g.W.Write.contents c.finish.new.to) (to_print (script_of l.reading.run) l.reading.held [])).
    goes_end (g.R.Read.remaining c.args.from.now) (g.R.Read.remaining l.from) (g.R.Read.remaining c.read.new.self) (g.W.Write.contents c.args.to.now) (g.W.Write.contents l.to) (g.W.Write.contents c.finish.new.to)
    (script_of l.reading.run) l.reading.held (take n.n c.read.new.buf) l._read l.invariant n.ensures.bytes.0 (ap (λ (k : ℕ). take k c.read.new.buf) c.if-n-eq0.true) (n.ensures.bytes.1 c.if-n-eq0.true (omega arith)) a)
    c.finish.ensures

pub returns-then-has_ended : goal.returns-then-has_ended
returns-then-has_ended g c =
    let l = c.loop-read in
    let n = c.in_ok-n in
    let r = c.take_part.new.self in
    goes_ended (g.R.Read.remaining c.args.from.now) (g.R.Read.remaining c.read.new.self) (g.W.Write.contents c.args.to.now) (g.W.Write.contents c.take_part.new.to) (script_of r.run) r.held _
    (goes_read (g.R.Read.remaining c.args.from.now) (g.R.Read.remaining l.from) (g.R.Read.remaining c.read.new.self) (g.W.Write.contents c.args.to.now) (g.W.Write.contents l.to) (g.W.Write.contents c.take_part.new.to)
    (script_of l.reading.run) (script_of r.run) l.reading.held r.held c.read.new.buf (take n.n c.read.new.buf) n.n l._read l.invariant n.ensures.bytes.0 refl n.ensures.bound.0 (omega arith) c.in_ok-take_part.ensures.prints)
    (sym c.has_ended.ensures ∙ c.if-has_ended.true)

pub loop-read-preserved : goal.loop-read-preserved
loop-read-preserved g c =
    let l = c.loop-read in
    let n = c.in_ok-n in
    let r = c.take_part.new.self in
    goes_read (g.R.Read.remaining c.args.from.now) (g.R.Read.remaining l.from) (g.R.Read.remaining c.read.new.self) (g.W.Write.contents c.args.to.now) (g.W.Write.contents l.to) (g.W.Write.contents c.take_part.new.to)
    (script_of l.reading.run) (script_of r.run) l.reading.held r.held c.read.new.buf (take n.n c.read.new.buf) n.n l._read l.invariant n.ensures.bytes.0 refl n.ensures.bound.0 (omega arith) c.in_ok-take_part.ensures.prints

pub returns : goal.returns
returns g c =
    let l = c.loop-read in
    goes_out (g.R.Read.remaining c.args.from.now) (g.R.Read.remaining l.from) (g.W.Write.contents c.args.to.now) (g.W.Write.contents l.to) (script_of l.reading.run) l.reading.held l._read l.invariant (omega arith)
