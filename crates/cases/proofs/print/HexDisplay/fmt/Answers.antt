use Rattle.std.proofs.Common.{rules, ◌≡◌, ◌<◌, [], false, get_or, Some}
use Rattle.std.proofs.Output.{has_written_append, has_written_of_eq}
use Rattle.std.proofs.lemmas.List.{flat_map_more, take_more}
use Rattle.std.proofs.lemmas.Fmt.{hex_byte}
use Rattle.std.specs.Fmt.{DisplaysOnOk, styled_digits_output}
use Rattle.cases.specs.Print.{hex_of_byte}
use Rattle.cases.proofs.print.HexDisplay.fmt.Goals as goal

-- a turn writes the digits of one byte
pub loop-b-preserved : goal.loop-b-preserved
loop-b-preserved g c = λ p.
    let b = get_or c.args.self.now.0.now c.loop-b.b-index 0 in
    let small : b < 256 = search rules in
    let one : styled_digits_output c.in_radix.result c.laid_out.result ≡ Some (hex_of_byte b) = simp (c.laid_out.ensures, c.in_radix.ensures, hex_byte false b small) in
    let w : DisplaysOnOk g.W.Write.write_str_gives c.loop-b.f c.write.result (Some (hex_of_byte b)) c.write.new.self = rw one at c.write.ensures.writes in
    has_written_of_eq _ _ _ _ _ (search (rules, flat_map_more hex_of_byte [], take_more c.args.self.now.0.now c.loop-b.b-index 0)) (has_written_append _ _ _ _ (hex_of_byte b) _ (c.loop-b.invariant p) (search rules))
