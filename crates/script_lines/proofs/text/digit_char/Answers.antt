use borrow.Author.Tests.{lt-ltb, le-ltb}
use Rattle.script_lines.specs.Text.{digit_char}
use Rattle.script_lines.proofs.text.digit_char.Goals as goal

pub returns-then-v-lt10 : goal.returns-then-v-lt10
unfolding digit_char
returns-then-v-lt10 c = simp (lt-ltb _ _ c.if-v-lt10.true)

pub returns-else-v-lt10 : goal.returns-else-v-lt10
unfolding digit_char
returns-else-v-lt10 c = simp (le-ltb _ _ c.if-v-lt10.false)
