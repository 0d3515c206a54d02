-- The MD5 message digest, in the order of RFC 1321. A byte is a number below 2 ^ 8, a word one below 2 ^ 32.
-- Assumes nothing.
use Rattle.std.specs.Prelude.{ℕ, zero, suc, ◌+◌, ◌-◌, ◌*◌, ◌/◌, ◌%◌, ◌^◌, List, [], ◌∷◌, ◌++◌, length, take, drop, replicate, bit_and, bit_or, bit_xor, slice_index}
use Rattle.md5_digest.specs.declared.step.State.{State}

-- ---- 2. Terminology and notation

infixl 60 ◌⊞◌
infixl 55 ◌<<<◌
-- the RFC's + of words: the sum modulo 2 ^ 32
abbrev pub ◌⊞◌ : ℕ → ℕ → ℕ
x ⊞ y = (x + y) % 2 ^ 32

-- x rotated left by s bits: those that leave on the left come in on the right
unfoldable pub ◌<<<◌ : ℕ → ℕ → ℕ
x <<< s = (x * 2 ^ s) % 2 ^ 32 + x / 2 ^ (32 - s)

-- not(x), the complement of each bit
abbrev pub complement : ℕ → ℕ
complement x = (2 ^ 32 - 1) - x

-- n bytes of a number, the low-order byte first
abbrev pub bytes : ℕ → ℕ → List ℕ
bytes zero x = []
bytes (suc n) x = x % 256 ∷ bytes n (x / 256)

-- X[k], word k of a list of bytes: each group of four bytes is a word, with the low-order byte given first
abbrev pub word : List ℕ → ℕ → ℕ
word x k =
    slice_index x (4 * k) + 256 * slice_index x (4 * k + 1) + 65536 * slice_index x (4 * k + 2) + 16777216 * slice_index x (4 * k + 3)

-- ---- 3.1 Append padding bits

-- how many zero bytes bring n bytes and one more to 56 modulo 64 (448 bits modulo 512)
abbrev pub zeros : ℕ → ℕ
zeros n = (64 + 55 - n % 64) % 64

-- a one bit and then zero bits
unfoldable pub with_bits : List ℕ → List ℕ
with_bits m = m ++ (128 ∷ replicate (zeros (length m)) 0)

-- ---- 3.2 Append length

-- the length in bits before the padding, of which the low-order 64 bits are used, low-order word first
unfoldable pub pad : List ℕ → List ℕ
pad m = with_bits m ++ bytes 8 (8 * length m % 2 ^ 64)

-- ---- 3.3 Initialize MD buffer

-- A: 01 23 45 67, B: 89 ab cd ef, C: fe dc ba 98, D: 76 54 32 10, low-order bytes first
unfoldable pub initial : State
initial = record { a = 0x67452301; b = 0xefcdab89; c = 0x98badcfe; d = 0x10325476 }

-- ---- 3.4 Process message in 16-word blocks

-- the four auxiliary functions: XY v not(X) Z, XZ v Y not(Z), X xor Y xor Z, Y xor (X v not(Z))
abbrev pub F : ℕ → ℕ → ℕ → ℕ
F x y z = bit_or (bit_and x y) (bit_and (complement x) z)

abbrev pub G : ℕ → ℕ → ℕ → ℕ
G x y z = bit_or (bit_and x z) (bit_and y (complement z))

abbrev pub H : ℕ → ℕ → ℕ → ℕ
H x y z = bit_xor (bit_xor x y) z

abbrev pub I : ℕ → ℕ → ℕ → ℕ
I x y z = bit_xor y (bit_or x (complement z))

-- the table T[1 ... 64]: T[i] is the integer part of 4294967296 times abs(sin(i)), i in radians
abbrev pub table : List ℕ
table =
    0xd76aa478 ∷ 0xe8c7b756 ∷ 0x242070db ∷ 0xc1bdceee ∷
    0xf57c0faf ∷ 0x4787c62a ∷ 0xa8304613 ∷ 0xfd469501 ∷
    0x698098d8 ∷ 0x8b44f7af ∷ 0xffff5bb1 ∷ 0x895cd7be ∷
    0x6b901122 ∷ 0xfd987193 ∷ 0xa679438e ∷ 0x49b40821 ∷
    0xf61e2562 ∷ 0xc040b340 ∷ 0x265e5a51 ∷ 0xe9b6c7aa ∷
    0xd62f105d ∷ 0x02441453 ∷ 0xd8a1e681 ∷ 0xe7d3fbc8 ∷
    0x21e1cde6 ∷ 0xc33707d6 ∷ 0xf4d50d87 ∷ 0x455a14ed ∷
    0xa9e3e905 ∷ 0xfcefa3f8 ∷ 0x676f02d9 ∷ 0x8d2a4c8a ∷
    0xfffa3942 ∷ 0x8771f681 ∷ 0x6d9d6122 ∷ 0xfde5380c ∷
    0xa4beea44 ∷ 0x4bdecfa9 ∷ 0xf6bb4b60 ∷ 0xbebfbc70 ∷
    0x289b7ec6 ∷ 0xeaa127fa ∷ 0xd4ef3085 ∷ 0x04881d05 ∷
    0xd9d4d039 ∷ 0xe6db99e5 ∷ 0x1fa27cf8 ∷ 0xc4ac5665 ∷
    0xf4292244 ∷ 0x432aff97 ∷ 0xab9423a7 ∷ 0xfc93a039 ∷
    0x655b59c3 ∷ 0x8f0ccc92 ∷ 0xffeff47d ∷ 0x85845dd1 ∷
    0x6fa87e4f ∷ 0xfe2ce6e0 ∷ 0xa3014314 ∷ 0x4e0811a1 ∷
    0xf7537e82 ∷ 0xbd3af235 ∷ 0x2ad7d2bb ∷ 0xeb86d391 ∷ []

abbrev pub T : ℕ → ℕ
T i = slice_index table (i - 1)

-- [abcd k s i] with the function f on the block x: a = b + ((a + f(b,c,d) + X[k] + T[i]) <<< s).
-- The words then change places: the new a is the next operation's b, and b, c, d are its c, d, a. So the RFC's
-- ABCD, DABC, CDAB, BCDA of a row are here one operation after the other, and after a row each word is back in its place.
unfoldable pub op : (ℕ → ℕ → ℕ → ℕ) → ℕ → ℕ → ℕ → List ℕ → State → State
op f k s i x w =
    record {
      a = w.d;
      b = w.b ⊞ ((w.a ⊞ f w.b w.c w.d ⊞ word x k ⊞ T i) <<< s);
      c = w.b;
      d = w.c;
    }

-- round 1: k, s and i of its 16 operations, with F
abbrev pub round1 : List (List ℕ → State → State)
round1 =
    op F 0 7 1 ∷ op F 1 12 2 ∷ op F 2 17 3 ∷ op F 3 22 4 ∷
    op F 4 7 5 ∷ op F 5 12 6 ∷ op F 6 17 7 ∷ op F 7 22 8 ∷
    op F 8 7 9 ∷ op F 9 12 10 ∷ op F 10 17 11 ∷ op F 11 22 12 ∷
    op F 12 7 13 ∷ op F 13 12 14 ∷ op F 14 17 15 ∷ op F 15 22 16 ∷ []

-- round 2: k, s and i of its 16 operations, with G
abbrev pub round2 : List (List ℕ → State → State)
round2 =
    op G 1 5 17 ∷ op G 6 9 18 ∷ op G 11 14 19 ∷ op G 0 20 20 ∷
    op G 5 5 21 ∷ op G 10 9 22 ∷ op G 15 14 23 ∷ op G 4 20 24 ∷
    op G 9 5 25 ∷ op G 14 9 26 ∷ op G 3 14 27 ∷ op G 8 20 28 ∷
    op G 13 5 29 ∷ op G 2 9 30 ∷ op G 7 14 31 ∷ op G 12 20 32 ∷ []

-- round 3: k, s and i of its 16 operations, with H
abbrev pub round3 : List (List ℕ → State → State)
round3 =
    op H 5 4 33 ∷ op H 8 11 34 ∷ op H 11 16 35 ∷ op H 14 23 36 ∷
    op H 1 4 37 ∷ op H 4 11 38 ∷ op H 7 16 39 ∷ op H 10 23 40 ∷
    op H 13 4 41 ∷ op H 0 11 42 ∷ op H 3 16 43 ∷ op H 6 23 44 ∷
    op H 9 4 45 ∷ op H 12 11 46 ∷ op H 15 16 47 ∷ op H 2 23 48 ∷ []

-- round 4: k, s and i of its 16 operations, with I
abbrev pub round4 : List (List ℕ → State → State)
round4 =
    op I 0 6 49 ∷ op I 7 10 50 ∷ op I 14 15 51 ∷ op I 5 21 52 ∷
    op I 12 6 53 ∷ op I 3 10 54 ∷ op I 10 15 55 ∷ op I 1 21 56 ∷
    op I 8 6 57 ∷ op I 15 10 58 ∷ op I 6 15 59 ∷ op I 13 21 60 ∷
    op I 4 6 61 ∷ op I 11 10 62 ∷ op I 2 15 63 ∷ op I 9 21 64 ∷ []

abbrev pub operations : List (List ℕ → State → State)
operations = round1 ++ (round2 ++ (round3 ++ round4))

-- operations on the block x, from the first to the last
unfoldable pub run : List ℕ → List (List ℕ → State → State) → State → State
run x [] w = w
run x (o ∷ os) w = run x os (o x w)

-- each word is increased by the value it had before the block
unfoldable pub add : State → State → State
add v w = record { a = v.a ⊞ w.a; b = v.b ⊞ w.b; c = v.c ⊞ w.c; d = v.d ⊞ w.d }

-- the buffer after a block
unfoldable pub compress : State → List ℕ → State
compress v x = add v (run x operations v)

-- block i, of 16 words
unfoldable pub block : List ℕ → ℕ → List ℕ
block m i = take 64 (drop (64 * i) m)

-- the buffer after the first n blocks
unfoldable pub process : List ℕ → ℕ → State
process m zero = initial
process m (suc n) = compress (process m n) (block m n)

-- ---- 3.5 Output: A, B, C, D, from the low-order byte of A to the high-order byte of D

abbrev pub output : State → List ℕ
output w = bytes 4 w.a ++ (bytes 4 w.b ++ (bytes 4 w.c ++ bytes 4 w.d))

unfoldable pub md5 : List ℕ → List ℕ
md5 m = output (process (pad m) (length (pad m) / 64))
