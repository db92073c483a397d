-- Keys: what a public key owes, and what key making comes to.
use Rattle.std.specs.Prelude.{◌≡◌, ℕ, List, ◌++◌, length, take, drop, Ok, Err, Result, ◌==◌, nat_le}
use Rattle.std.specs.Borrow.{Bor}
use Rattle.refusal.specs.declared.Buffer.TheVariants.{Map, Secret, Answer}
use Rattle.refusal.specs.declared.Layer.TheVariants.{Signature}
use Rattle.refusal.specs.declared.Refusal.{Refusal}
use Rattle.refusal.specs.declared.Refusal.TheVariants.{BufferLength, KeyLength}
use Rattle.refusal.specs.Outcome.{and_then, unless}
use Rattle.field.specs.Coding.{Coding, reads}
use Rattle.packing.specs.Packed.{packed, fault, refusing, key_refusal_of}
use Rattle.packing.specs.Laws.{KeyWrong}
use Rattle.params.specs.declared.Set.{Set}
use Rattle.params.specs.Sets.{set_of}
use Rattle.params.specs.Sizes.{coefficients_of, key_length}
use Rattle.suite.specs.Meaning.{Meaning}
use Rattle.suite.specs.Drawn.{drawn}
use Rattle.algebra.specs.Quad.{F}

-- a key of the wanted length, or 7
abbrev pub length_of : ℕ → List ℕ → Result (Unit {0}) Refusal
length_of wanted key = unless (length key == wanted) KeyLength

-- v: what follows the seed S of a public key, packed
abbrev pub vector_of : List ℕ → List ℕ
vector_of key = drop 32 key

-- what is wrong with v
abbrev pub KeyFaulty : ℕ → ℕ → Set → List ℕ → ℕ → ℕ → Type 0
KeyFaulty q b s key number place = KeyWrong q b s.m (vector_of key) number place

-- the check of a public key: its set, its length, its elements and pad
abbrev pub key_of : ℕ → ℕ → Set → List ℕ → Result (Unit {0}) Refusal
key_of q b s key =
    and_then (set_of s) (λ _.
    and_then (length_of (key_length b s) key) (λ _.
    refusing (key_refusal_of s.m) (fault q b s.m (vector_of key))))

-- a secret key is K ‖ S
abbrev pub K_of : List ℕ → List ℕ
K_of key = take 32 key

abbrev pub S_of : List ℕ → List ℕ
S_of key = drop 32 key

-- the two seeds of a secret key, or 7
abbrev pub Halves : List ℕ → Result (Bor (List ℕ) × Bor (List ℕ)) Refusal → Type 0
Halves key (Ok p) = (length key ≡ 64) × ((p.0.now ≡ K_of key) × (p.1.now ≡ S_of key))
Halves key (Err e) = Err e ≡ length_of 64 key

-- the lengths of map, secret and answer, of which the smallest wrong place is told
abbrev pub buffers_of : ℕ → Set → ℕ → ℕ → ℕ → Result (Unit {0}) Refusal
buffers_of b s map secret answer =
    and_then (unless (nat_le (reads (coefficients_of s)) map) (BufferLength Signature Map)) (λ _.
    and_then (unless (nat_le 1024 secret) (BufferLength Signature Secret)) (λ _.
    unless (answer == key_length b s) (BufferLength Signature Answer)))

-- S ‖ packed v with v = F(s): s drawn with label 9 and seed K, the map with label 8 and seed S
abbrev pub public_of : Coding → Meaning → Set → List ℕ → List ℕ → Result (List ℕ) Refusal
public_of C M set k seed =
    and_then (drawn C M 9 k set.n) (λ s.
    and_then (drawn C M 8 seed (coefficients_of set)) (λ cs.
    Ok (seed ++ packed C.bits (F C.ops set.m set.n cs s))))

-- the public key of a secret key, or the first refusal; map, secret and answer are the buffers' lengths
abbrev pub make_of : Coding → Meaning → Set → ℕ → ℕ → ℕ → List ℕ → Result (List ℕ) Refusal
make_of C M set map secret answer key =
    and_then (set_of set) (λ _.
    and_then (buffers_of C.bits set map secret answer) (λ _.
    and_then (length_of 64 key) (λ _.
    public_of C M set (K_of key) (S_of key))))
