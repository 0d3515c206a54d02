-- What is written is read back as the same fields: each message by the law of layouts, and an output of several frames by the law of frames.
-- Assumes nothing.
use Rattle.std.specs.Prelude.{Ok}
use Prim.Native.Nat.{ℕ, ◌+◌}
use mathlib.Core.Path.{◌≡◌, refl, sym, ◌∙◌, ap}
use mathlib.Core.Bool.{true}
use mathlib.Core.List.{List, [], ◌∷◌, ◌++◌, append-nil, append_assoc}
use native.Mathlib.Omega.{arith}
use lib.ListN.{length, get_or}
use lib.Seq.{take_at, drop_at}
use borrow.Author.Tests.{le-leb, eq-eqb}
use Rattle.wire.specs.Number.{be, be_at}
use Rattle.wire.specs.Frame.{framed, body}
use Rattle.wire.specs.Layout.{Layout, Value, int, run, encode, decode, extent, behind, int_of, run_of, int_at, run_at, Fits}
use Rattle.wire.proofs.RunLaws.{same_decides}
use Rattle.wire.proofs.FrameLaws.{frame_of, framed_length}
use Rattle.wire.proofs.LayoutLaws.{layout_back, be_at_behind}
use Rattle.names.specs.Full.{full_name}
use Rattle.handshake_rules.specs.Refusals.{checked}
use Rattle.handshake_rules.specs.Flags.{flag_test}
use Rattle.handshake_rules.specs.Messages.{name_l, challenge_l, status_l, reply_l, ack_l, name_tag, status_tag, reply_tag, ack_tag, tag_of, name_message, challenge_message, status_message, reply_message, ack_message, challenge_name}
use Rattle.handshake_rules.specs.Forms.{Form, form_tests, challenge_form}
use Rattle.handshake_rules.specs.MessageClaims.{NameReadBack, ChallengeReadBack, StatusReadBack, ReplyReadBack, AckReadBack, FrameSplits}
use Rattle.handshake_rules.proofs.FlagLaws.{test_good}
use Rattle.handshake_rules.proofs.MessageLaws.{full_short, name_size, challenge_size, status_size, reply_size, ack_size}

-- a form all of whose tests are met passes
passes_all : (f : Form) → f.served ≡ true → f.fits ≡ true → f.named ≡ true → f.flags ≡ Ok tt → checked (form_tests f) ≡ Ok tt
passes_all f a b c d = rw (a, b, c, d)

-- the frame of a layout's fields, read by that layout
module _ (fs : Layout) (vs : List Value) (h : Fits fs vs) (bs : List ℕ) (e : bs ≡ encode fs vs) where
  whole : decode fs bs ≡ vs
  whole = ap (decode fs) (e ∙ sym (append-nil (encode fs vs))) ∙ (layout_back fs vs [] h).fields

  all_taken : extent fs bs ≡ length bs
  all_taken = ap (extent fs) (e ∙ sym (append-nil (encode fs vs))) ∙ (layout_back fs vs [] h).taken ∙ ap length (sym e)

  int_back : (k : ℕ) → int_at fs k bs ≡ int_of (get_or vs k (int 0))
  int_back k = ap (λ (x : List Value). int_of (get_or x k (int 0))) whole

  run_back : (k : ℕ) → run_at fs k bs ≡ run_of (get_or vs k (int 0))
  run_back k = ap (λ (x : List Value). run_of (get_or x k (int 0))) whole

pub name_read_back : NameReadBack
unfolding name_message
name_read_back f c n hf hc full good =
    let vs = int name_tag ∷ int f ∷ int c ∷ run n ∷ [] in
    let bs = encode name_l vs in
    let s = full_short n full in
    let l : length bs ≡ 15 + length n = omega (arith, framed_length bs, name_size f c n) in
    let fr = frame_of bs (omega arith) (omega arith) in
    let fits : Fits name_l vs = (omega arith, (hf, (hc, (omega arith, tt)))) in
    let w = framed bs in
    let e : body w ≡ bs = fr.1 in
    let fl = int_back name_l vs fits (body w) e 1 in
    let nm = run_back name_l vs fits (body w) e 3 in
    record {
      passes = record {
        whole = fr.0;
        passes =
            passes_all _ (eq-eqb _ name_tag (int_back name_l vs fits (body w) e 0)) (le-leb (extent name_l (body w)) (length (body w)) (omega (arith, all_taken name_l vs fits (body w) e)))
            (ap full_name nm ∙ full) (ap flag_test fl ∙ test_good f good);
      };
      flags = fl;
      creation = int_back name_l vs fits (body w) e 2;
      name = nm;
    }

pub challenge_read_back : ChallengeReadBack
unfolding challenge_message
challenge_read_back f h c n hf hh hc full good =
    let vs = int name_tag ∷ int f ∷ int h ∷ int c ∷ run n ∷ [] in
    let bs = encode challenge_l vs in
    let s = full_short n full in
    let l : length bs ≡ 19 + length n = omega (arith, framed_length bs, challenge_size f h c n) in
    let fr = frame_of bs (omega arith) (omega arith) in
    let fits : Fits challenge_l vs = (omega arith, (hf, (hh, (hc, (omega arith, tt))))) in
    let w = framed bs in
    let e : body w ≡ bs = fr.1 in
    let fl = int_back challenge_l vs fits (body w) e 1 in
    let nm = run_back challenge_l vs fits (body w) e 4 in
    record {
      passes = record {
        whole = fr.0;
        passes =
            passes_all (challenge_form n (body w)) (eq-eqb _ name_tag (int_back challenge_l vs fits (body w) e 0)) (le-leb (extent challenge_l (body w)) (length (body w)) (omega (arith, all_taken challenge_l vs fits (body w) e)))
            (rw (ap full_name nm ∙ full) ((same_decides n (challenge_name (body w))).1 (sym nm))) (ap flag_test fl ∙ test_good f good);
      };
      flags = fl;
      challenge = int_back challenge_l vs fits (body w) e 2;
      creation = int_back challenge_l vs fits (body w) e 3;
      name = nm;
    }

pub reply_read_back : ReplyReadBack
unfolding reply_message
reply_read_back c d hc hd =
    let vs = int reply_tag ∷ int c ∷ run d ∷ [] in
    let bs = encode reply_l vs in
    let l : length bs ≡ 21 = omega (arith, framed_length bs, reply_size c d hd) in
    let fr = frame_of bs (omega arith) (omega arith) in
    let fits : Fits reply_l vs = (omega arith, (hc, (hd, tt))) in
    let w = framed bs in
    let e : body w ≡ bs = fr.1 in
    record {
      passes = record {
        whole = fr.0;
        passes =
            passes_all _ (eq-eqb _ reply_tag (int_back reply_l vs fits (body w) e 0)) (eq-eqb _ _ (sym (all_taken reply_l vs fits (body w) e))) refl refl;
      };
      challenge = int_back reply_l vs fits (body w) e 1;
      digest = run_back reply_l vs fits (body w) e 2;
    }

pub ack_read_back : AckReadBack
unfolding ack_message
ack_read_back d hd =
    let vs = int ack_tag ∷ run d ∷ [] in
    let bs = encode ack_l vs in
    let l : length bs ≡ 17 = omega (arith, framed_length bs, ack_size d hd) in
    let fr = frame_of bs (omega arith) (omega arith) in
    let fits : Fits ack_l vs = (omega arith, (hd, tt)) in
    let w = framed bs in
    let e : body w ≡ bs = fr.1 in (
      record {
        whole = fr.0;
        passes = passes_all _ (eq-eqb _ ack_tag (int_back ack_l vs fits (body w) e 0)) (eq-eqb _ _ (sym (all_taken ack_l vs fits (body w) e))) refl refl;
      },
      run_back ack_l vs fits (body w) e 1,
    )

-- a status: the word stands behind the fields
pub status_read_back : StatusReadBack
unfolding status_message
status_read_back word h =
    let vs = int status_tag ∷ [] in
    let bs = encode status_l vs ++ word in
    let l : length bs ≡ 1 + length word = omega (arith, framed_length bs, status_size word) in
    let fr = frame_of bs (omega arith) (omega arith) in
    let fits : Fits status_l vs = (omega arith, tt) in
    let e : body (framed bs) ≡ bs = fr.1 in
    let back = layout_back status_l vs word fits in
    let t : tag_of (body (framed bs)) ≡ status_tag = ap tag_of e ∙ ap (λ (x : List Value). int_of (get_or x 0 (int 0))) back.fields in
    (record { whole = fr.0; passes = passes_all _ (eq-eqb _ status_tag t) refl refl refl }, ap (behind status_l) e ∙ back.left)

pub frame_splits : FrameSplits
unfolding framed
frame_splits bs rest h =
    let out : List ℕ = framed bs ++ rest in
    let t : be_at 2 0 out ≡ length bs =
    ap (be_at 2 0) (append_assoc (be 2 (length bs)) bs rest) ∙ be_at_behind [] (bs ++ rest) 0 2 (length bs) refl (omega arith) in
    let l : length (framed bs) ≡ 2 + be_at 2 0 out = omega (arith, framed_length bs, t) in
    record { told = t; first = take_at (framed bs) rest (2 + be_at 2 0 out) l; behind = drop_at (framed bs) rest (2 + be_at 2 0 out) l }
