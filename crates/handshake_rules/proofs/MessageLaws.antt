-- Laws of the messages: how long they are, and how they are written in parts. Assumes nothing.
use Rattle.wire.proofs.LayoutLaws.{message_split}
use Rattle.wire.proofs.OutputLaws.{written_two, overwrite_join}
use Rattle.wire.specs.Layout.{number, int, encode}
use Rattle.wire.specs.Output.{overwrite, written}
use Prim.Native.Nat.{ℕ, ◌+◌, ◌≤◌, suc}
use mathlib.Core.Path.{◌≡◌, refl, sym, ◌∙◌, ap}
use mathlib.Core.Bool.{true}
use mathlib.Core.List.{List, [], ◌∷◌, ◌++◌, append-nil}
use native.Mathlib.Omega.{arith}
use lib.ListN.{length, length-append}
use lib.Dec.{leb}
use borrow.Author.Tests.{leb-true}
use Rattle.wire.specs.Number.{be}
use Rattle.wire.specs.Frame.{framed}
use Rattle.wire.proofs.RunLaws.{and_left, and_right}
use Rattle.names.specs.Full.{full_name}
use Rattle.handshake_rules.specs.Messages.{name_message, challenge_message, status_message, reply_message, ack_message, before_name, before_challenger}

-- ---- names

pub full_short : (n : List ℕ) → full_name n ≡ true → length n ≤ 255
unfolding full_name
full_short n h = leb-true (length n) 255 (and_right (leb 3 (length n)) _ (and_left _ _ (and_left _ _ (and_left _ _ h))))

-- ---- sizes

pub name_size : (f c : ℕ) (n : List ℕ) → length (name_message f c n) ≡ 17 + length n
unfolding name_message framed
name_size f c n = simp length-append (omega arith)

pub challenge_size : (f h c : ℕ) (n : List ℕ) → length (challenge_message f h c n) ≡ 21 + length n
unfolding challenge_message framed
challenge_size f h c n = simp length-append (omega arith)

pub status_size : (w : List ℕ) → length (status_message w) ≡ 3 + length w
unfolding status_message framed
status_size w = omega arith

pub reply_size : (c : ℕ) (d : List ℕ) → length d ≡ 16 → length (reply_message c d) ≡ 23
unfolding reply_message framed
reply_size c d h = simp (length-append, h)

pub ack_size : (d : List ℕ) → length d ≡ 16 → length (ack_message d) ≡ 19
unfolding ack_message framed
ack_size d h = simp (length-append, h)

-- ---- messages as they are written, a header and what follows it

module _ (f c : ℕ) (n : List ℕ) where
  abbrev name_header : ℕ → List ℕ
  name_header k = be 2 (15 + k) ++ encode (before_name ++ (number 2 ∷ [])) (int 78 ∷ int f ∷ int c ∷ int k ∷ [])

  name_split : name_header (length n) ++ n ≡ name_message f c n
  unfolding name_message
  name_split = message_split before_name (int 78 ∷ int f ∷ int c ∷ []) 2 n (15 + length n) refl refl

  pub name_written : (out : List ℕ) (k : ℕ) {hs x y : List ℕ} → k ≡ length n → hs ≡ name_header k → x ≡ overwrite out 0 hs
      → y ≡ overwrite x 17 n → y ≡ written (name_message f c n) out
  name_written out k ek eh ex ey =
      ey ∙ ap (λ (x : List ℕ). overwrite x 17 n) (ex ∙ ap (overwrite out 0) (eh ∙ ap name_header ek))
      ∙ written_two out (name_header (length n)) n 17 refl ∙ ap (λ (x : List ℕ). written x out) name_split

module _ (f h c : ℕ) (n : List ℕ) where
  abbrev challenge_header : ℕ → List ℕ
  challenge_header k = be 2 (19 + k) ++ encode (before_challenger ++ (number 2 ∷ [])) (int 78 ∷ int f ∷ int h ∷ int c ∷ int k ∷ [])

  challenge_split : challenge_header (length n) ++ n ≡ challenge_message f h c n
  unfolding challenge_message
  challenge_split = message_split before_challenger (int 78 ∷ int f ∷ int h ∷ int c ∷ []) 2 n (19 + length n) refl refl

  pub challenge_written : (out : List ℕ) (at k : ℕ) {hs x y : List ℕ} → at ≤ length out → k ≡ length n → hs ≡ challenge_header k
      → x ≡ overwrite out at hs → y ≡ overwrite x (at + 21) n → y ≡ overwrite out at (challenge_message f h c n)
  challenge_written out at k le ek eh ex ey =
      ey ∙ ap (λ (x : List ℕ). overwrite x (at + 21) n) (ex ∙ ap (overwrite out at) (eh ∙ ap challenge_header ek))
      ∙ overwrite_join out at (challenge_header (length n)) n (at + 21) le refl ∙ ap (overwrite out at) challenge_split

pub status_written : (w out : List ℕ) {hs x y : List ℕ} → hs ≡ be 2 (1 + length w) ++ (115 ∷ []) → x ≡ overwrite out 0 hs → y ≡ overwrite x 3 w
    → y ≡ written (status_message w) out
unfolding status_message framed
status_written w out eh ex ey =
    let e : 1 + length w ≡ suc (length w) = omega arith in
    ey ∙ ap (λ (x : List ℕ). overwrite x 3 w) (ex ∙ ap (overwrite out 0) eh)
    ∙ written_two out (be 2 (1 + length w) ++ (115 ∷ [])) w 3 refl ∙ ap (λ (k : ℕ). written (be 2 k ++ (115 ∷ w)) out) e

-- ---- a reply and an acknowledgement are a head of seven and of three bytes, and the digest

pub reply_head : (c : ℕ) (d : List ℕ) → length d ≡ 16 → reply_message c d ≡ (be 2 21 ++ 114 ∷ be 4 c) ++ d
unfolding reply_message framed
reply_head c d h = simp (h, append-nil)

pub ack_head : (d : List ℕ) → length d ≡ 16 → ack_message d ≡ (be 2 17 ++ 97 ∷ []) ++ d
unfolding ack_message framed
ack_head d h = simp (h, append-nil)

pub reply_written : (c : ℕ) (d out : List ℕ) {x y : List ℕ} → length d ≡ 16 → x ≡ overwrite out 0 (be 2 21 ++ 114 ∷ be 4 c) → y ≡ overwrite x 7 d
    → y ≡ written (reply_message c d) out
reply_written c d out h ex ey =
    ey ∙ ap (λ (x : List ℕ). overwrite x 7 d) ex ∙ written_two out (be 2 21 ++ 114 ∷ be 4 c) d 7 refl
    ∙ ap (λ (x : List ℕ). written x out) (sym (reply_head c d h))

pub ack_written : (d out : List ℕ) {x y : List ℕ} → length d ≡ 16 → x ≡ overwrite out 0 (be 2 17 ++ 97 ∷ []) → y ≡ overwrite x 3 d
    → y ≡ written (ack_message d) out
ack_written d out h ex ey =
    ey ∙ ap (λ (x : List ℕ). overwrite x 3 d) ex ∙ written_two out (be 2 17 ++ 97 ∷ []) d 3 refl
    ∙ ap (λ (x : List ℕ). written x out) (sym (ack_head d h))
