-- Packed vectors of elements of b bits whose codes are the numbers below q.
-- k elements are one number, the sum of v(i) * (2^b)^i; its bytes, lowest first, are the packed form.
use Rattle.std.specs.Prelude.{◌≡◌, ℕ, suc, ◌+◌, ◌-◌, ◌*◌, ◌/◌, ◌^◌, ◌<◌, cond, List, [], ◌∷◌, length, Ok, Err, Result, ◌==◌, nat_lt}
use Rattle.refusal.specs.declared.Buffer.TheVariants.{Answer}
use Rattle.refusal.specs.declared.Layer.TheVariants.{Packing}
use Rattle.refusal.specs.declared.Refusal.{Refusal}
use Rattle.refusal.specs.declared.Refusal.TheVariants.{BufferLength, KeyElement, Element, Pad}
use Rattle.refusal.specs.Outcome.{and_then, unless}
use Rattle.packing.specs.Numeral.{amount, digits}
use Rattle.packing.specs.declared.fault.Fault.{Fault}
use Rattle.packing.specs.declared.fault.Fault.TheVariants.{Element as NoCode, Pad as PadBits}

-- the bytes that k elements of b bits take
abbrev pub width : ℕ → ℕ → ℕ
width b k = (b * k + 7) / 8

-- the byte that holds the lowest bit of element i
abbrev pub byte_of : ℕ → ℕ → ℕ
byte_of b i = (b * i) / 8

abbrev pub packed : ℕ → List ℕ → List ℕ
packed b v = digits 256 (width b (length v)) (amount (2 ^ b) v)

-- the k elements that bytes hold, codes or not, and what stands above them
abbrev pub elements : ℕ → ℕ → List ℕ → List ℕ
elements b k bytes = digits (2 ^ b) k (amount 256 bytes)

abbrev pub pad : ℕ → ℕ → List ℕ → ℕ
pad b k bytes = amount 256 bytes / (2 ^ b) ^ k

-- the place of the first entry that is no code, or the length where there is none
abbrev pub first_not : ℕ → List ℕ → ℕ
first_not q [] = 0
first_not q (y ∷ ys) = cond (nat_lt y q) (suc (first_not q ys)) 0

-- the first element that is no code, else a pad that is not zero
abbrev pub fault : ℕ → ℕ → ℕ → List ℕ → Result (Unit {0}) Fault
fault q b k bytes =
    cond (nat_lt (first_not q (elements b k bytes)) k)
    (Err (NoCode (first_not q (elements b k bytes))))
    (cond (pad b k bytes == 0) (Ok tt) (Err PadBits))

-- a faulty element is one of the k
abbrev pub Within : ℕ → Fault → Type 0
Within k (NoCode i) = i < k
Within k PadBits = Unit {0}

-- R tells the faults among k elements as f does
abbrev pub Tells : ℕ → (Fault → Refusal → Type 0) → (Fault → Refusal) → Type 0
Tells k R f = (x : Fault) (r : Refusal) → Within k x → R x r → r ≡ f x

-- in a signature, where the vector begins at byte `at`: by a byte of the signature
abbrev pub signature_refusal_of : ℕ → ℕ → ℕ → Fault → Refusal
signature_refusal_of b at k (NoCode i) = Element (at + byte_of b i)
signature_refusal_of b at k PadBits = Pad (at + (width b k - 1))

-- in a public key, by an element, or past the last for the pad
abbrev pub key_refusal_of : ℕ → Fault → Refusal
key_refusal_of k (NoCode i) = KeyElement i
key_refusal_of k PadBits = KeyElement k

abbrev pub refusing : (Fault → Refusal) → Result (Unit {0}) Fault → Result (Unit {0}) Refusal
refusing f (Ok x) = Ok tt
refusing f (Err e) = Err (f e)

-- a buffer whose length is not that of the packed vector
abbrev pub room_of : ℕ → ℕ → ℕ → Result (Unit {0}) Refusal
room_of b k room = unless (room == width b k) (BufferLength Packing Answer)

-- the first entry of a vector that is no code, told at the byte where it would begin
abbrev pub codes_of : ℕ → ℕ → List ℕ → Result (Unit {0}) Refusal
codes_of q b v = cond (nat_lt (first_not q v) (length v)) (Err (Element (byte_of b (first_not q v)))) (Ok tt)

-- packing into a buffer of `room` bytes
abbrev pub pack_of : ℕ → ℕ → List ℕ → ℕ → Result (List ℕ) Refusal
pack_of q b v room =
    and_then (room_of b (length v) room) (λ _.
    and_then (codes_of q b v) (λ _.
    Ok (packed b v)))

-- unpacking k elements, with the fault told in one way or the other
abbrev pub unpack_by : (Fault → Refusal) → ℕ → ℕ → ℕ → List ℕ → Result (List ℕ) Refusal
unpack_by f q b k bytes =
    and_then (room_of b k (length bytes)) (λ _.
    and_then (refusing f (fault q b k bytes)) (λ _.
    Ok (elements b k bytes)))

abbrev pub unpack_of : ℕ → ℕ → ℕ → List ℕ → Result (List ℕ) Refusal
unpack_of q b k bytes = unpack_by (signature_refusal_of b 0 k) q b k bytes

abbrev pub unpack_key_of : ℕ → ℕ → ℕ → List ℕ → Result (List ℕ) Refusal
unpack_key_of q b k bytes = unpack_by (key_refusal_of k) q b k bytes
