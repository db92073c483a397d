-- A packed vector of codes has its width, is read back as it was, and has nothing wrong with it.
use Rattle.std.proofs.Common.{◌≡◌, ℕ, ◌<◌, List, length, Ok, Err, Result, refl, ap, ◌∙◌, subst, arith}
use Rattle.std.proofs.ByRecursion.{All-from_get_or}
use Rattle.refusal.specs.declared.Refusal.{Refusal}
use Rattle.refusal.specs.Outcome.{and_then}
use Rattle.field.specs.Codes.{Vector}
use Rattle.field.specs.Coding.{Coding, Coded}
use Rattle.packing.specs.Packed.{width, packed, elements, fault, refusing, signature_refusal_of, key_refusal_of, room_of}
use Rattle.packing.specs.declared.fault.Fault.{Fault}
use Rattle.packing.specs.Laws.{Packs, Wrong, KeyWrong}
use Rattle.packing.proofs.Round.{packs, packed_length}
use Rattle.packing.proofs.Earliest.{judged, judged_key}
use Rattle.scheme.proofs.Outcomes.{then_parts}
use Rattle.scheme.proofs.Lawfuls.{none_wrong}

not_refused : (f : Fault → Refusal) (x : Result (Unit {0}) Fault) → refusing f x ≡ Ok tt → x ≡ Ok tt
not_refused f (Ok tt) h = refl
not_refused f (Err e) h =
    let z : ◌≡◌ {A = ℕ} 0 1 = cc in
    absurd (omega arith)

module _ (C : Coding) (K : Coded C) where
  record Read (bytes v : List ℕ) (k : ℕ) : Type 0 where
    back : elements C.bits k bytes ≡ v
    sound : fault C.q C.bits k bytes ≡ Ok tt

  read : (v : List ℕ) → Vector C.q (length v) v → Read (packed C.bits v) v (length v)
  read v c =
      let b : ℕ = C.bits in
      let bytes : List ℕ = packed b v in
      let p : Packs C.q b v bytes = packs C.q b v K.some K.fits (All-from_get_or (λ x. x < C.q) v 0 c.codes) in
      let verdict : Result (Unit {0}) Refusal = refusing (signature_refusal_of b 0 (length v)) (fault C.q b (length v) bytes) in
      let x = then_parts (room_of b (length v) (length bytes)) (λ _. and_then verdict (λ _. Ok (elements b (length v) bytes))) v p.undone in
      let y = then_parts verdict (λ _. Ok (elements b (length v) bytes)) v x.1 in
      let e : ◌≡◌ {A = Result (List ℕ) Refusal} (Ok (elements b (length v) bytes)) (Ok v) = y.1 in
      record { back = cc; sound = not_refused (signature_refusal_of b 0 (length v)) (fault C.q b (length v) bytes) y.0 }

  module _ (k : ℕ) (v : List ℕ) (c : Vector C.q k v) where
    pub packed_long : length (packed C.bits v) ≡ width C.bits k
    packed_long = packed_length C.bits v ∙ ap (width C.bits) c.long

    both : Read (packed C.bits v) v k
    both = subst (Read (packed C.bits v) v) c.long (read v (record { long = refl; codes = c.codes }))

    pub unpacked : elements C.bits k (packed C.bits v) ≡ v
    unpacked = both.back

    pub none_in_signature : (at number place : ℕ) → Wrong C.q C.bits at k (packed C.bits v) number place → ⊥
    none_in_signature at =
        none_wrong (Wrong C.q C.bits at k (packed C.bits v)) _ (ap (refusing (signature_refusal_of C.bits at k)) both.sound) (judged C.q C.bits k (packed C.bits v) at K.some)

    pub none_in_key : (number place : ℕ) → KeyWrong C.q C.bits k (packed C.bits v) number place → ⊥
    none_in_key = none_wrong (KeyWrong C.q C.bits k (packed C.bits v)) _ (ap (refusing (key_refusal_of k)) both.sound) (judged_key C.q C.bits k (packed C.bits v))
