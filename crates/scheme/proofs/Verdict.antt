-- Verification accepts exactly what it says it accepts.
use Rattle.std.proofs.Common.{◌≡◌, ℕ, ◌*◌, true, eqb, leb, List, length, Ok, Err, Result, sym, refl, ◌∙◌}
use Rattle.std.proofs.lemmas.Slice.Eq.{bytes_eq-Decides}
use Rattle.std.proofs.lemmas.Bool.{le-leb, leb-true, eq-eqb, eqb-true}
use Rattle.refusal.specs.declared.Buffer.TheVariants.{Map, List as ListBuffer}
use Rattle.refusal.specs.declared.Layer.TheVariants.{Signature}
use Rattle.refusal.specs.declared.Refusal.{Refusal}
use Rattle.refusal.specs.declared.Refusal.TheVariants.{BadSet, MessageTooLong, BufferLength, KeyLength, SignatureLength, NotAccepted}
use Rattle.refusal.specs.Outcome.{unless, told}
use Rattle.field.specs.Coding.{Coding, Coded, reads}
use Rattle.packing.specs.Packed.{fault, refusing, key_refusal_of}
use Rattle.packing.specs.Laws.{Judges}
use Rattle.packing.proofs.Earliest.{judged_key}
use Rattle.params.specs.declared.Set.{Set}
use Rattle.params.specs.Sets.{good, set_of}
use Rattle.params.specs.Sizes.{coefficients_of, key_length, signature_length}
use Rattle.params.proofs.Bounds.{bounds}
use Rattle.suite.specs.Meaning.{Meaning}
use Rattle.suite.specs.Drawn.{drawn}
use Rattle.wire.specs.Layout.{Faulty, scanned, vectors_of}
use Rattle.wire.proofs.Everywhere.{judged_whole}
use Rattle.keys.specs.Keys.{length_of, key_of, KeyFaulty, vector_of}
use Rattle.scheme.specs.Signing.{message_of}
use Rattle.scheme.specs.Verifying.{σ0_in, seed, h1, listed, verify_buffers_of, verify_of, Accepts, Verifies}
use Rattle.scheme.proofs.Outcomes.{then_parts, then_from, unless_ok, unless_true}
use Rattle.scheme.proofs.Draws.{drawn_enough, enough_drawn}
use Rattle.scheme.proofs.Lawfuls.{none_wrong}

-- where nothing is wrong, nothing is refused
accepted : (W : ℕ → ℕ → Type 0) (r : Result (Unit {0}) Refusal) → Judges W r → ((number place : ℕ) → W number place → ⊥) → r ≡ Ok tt
accepted W (Ok tt) j h = refl
accepted W (Err e) j h = absurd (h _ _ j.wrong)

module _ (C : Coding) (M : Meaning) (K : Coded C) (set : Set) (message : List ℕ) (map list : ℕ) (key sig : List ℕ) where
  abbrev key_verdict : Result (Unit {0}) Refusal
  key_verdict = refusing (key_refusal_of set.m) (fault C.q C.bits set.m (vector_of key))

  abbrev sig_verdict : Result (Unit {0}) Refusal
  sig_verdict = scanned C.q C.bits set sig

  accepts : verify_of C M set message map list key sig ≡ Ok tt → Accepts C M set message map list key sig
  accepts h =
      let p1 = then_parts (set_of set) _ tt h in
      let p2 = then_parts (message_of message) _ tt p1.1 in
      let p3 = then_parts (verify_buffers_of set map list) _ tt p2.1 in
      let p4 = then_parts (key_of C.q C.bits set key) _ tt p3.1 in
      let p5 = then_parts (vectors_of C.q C.bits set sig) _ tt p4.1 in
      let p6 = then_parts (told (drawn C M 8 (seed C M set key message sig) (coefficients_of set))) _ tt p5.1 in
      let p7 = then_parts (told (drawn C M 11 (h1 C M set key message sig) set.r)) _ tt p6.1 in
      let buffers = then_parts (unless (leb (reads (coefficients_of set)) map) (BufferLength Signature Map)) _ tt p3.0 in
      let of_key = then_parts (length_of (key_length C.bits set) key) _ tt (then_parts (set_of set) _ tt p4.0).1 in
      let of_sig = then_parts (unless (eqb (length sig) (signature_length C.bits set)) SignatureLength) _ tt (then_parts (set_of set) _ tt p5.0).1 in
      let g : good set ≡ true = unless_ok (good set) BadSet p1.0 in
      let k = bounds set g in
      record {
        set_good = g;
        message_short = leb-true (length message) 65536 (unless_ok _ MessageTooLong p2.0);
        map_fits = leb-true (reads (coefficients_of set)) map (unless_ok _ (BufferLength Signature Map) buffers.0);
        list_fits = leb-true (64 * set.r) list (unless_ok _ (BufferLength Signature ListBuffer) buffers.1);
        key_long = eqb-true (length key) (key_length C.bits set) (unless_ok _ KeyLength of_key.0);
        key_lawful = none_wrong (KeyFaulty C.q C.bits set key) key_verdict of_key.1 (judged_key C.q C.bits set.m (vector_of key));
        long = eqb-true (length sig) (signature_length C.bits set) (unless_ok _ SignatureLength of_sig.0);
        lawful = none_wrong (Faulty C.q C.bits set sig) sig_verdict of_sig.1 (judged_whole C.q C.bits set sig K.some k.some_n k.some_m);
        map_drawn = drawn_enough C M 8 (seed C M set key message sig) (coefficients_of set) p6.0;
        challenges_drawn = drawn_enough C M 11 (h1 C M set key message sig) set.r p7.0;
        digest = (bytes_eq-Decides (M.d 2 (listed C M set key message sig)) (σ0_in sig)).0 (unless_ok _ NotAccepted p7.1);
      }

  is_accepted : Accepts C M set message map list key sig → verify_of C M set message map list key sig ≡ Ok tt
  is_accepted a =
      let k = bounds set a.set_good in
      let e1 : good set ≡ true = a.set_good in
      let e2 = le-leb (length message) 65536 a.message_short in
      let e3 = le-leb (reads (coefficients_of set)) map a.map_fits in
      let e4 = le-leb (64 * set.r) list a.list_fits in
      let e5 = eq-eqb (length key) (key_length C.bits set) a.key_long in
      let e6 = accepted (KeyFaulty C.q C.bits set key) key_verdict (judged_key C.q C.bits set.m (vector_of key)) a.key_lawful in
      let e7 = eq-eqb (length sig) (signature_length C.bits set) a.long in
      let e8 = accepted (Faulty C.q C.bits set sig) sig_verdict (judged_whole C.q C.bits set sig K.some k.some_n k.some_m) a.lawful in
      let e9 = enough_drawn C M 8 (seed C M set key message sig) (coefficients_of set) a.map_drawn in
      let e10 = enough_drawn C M 11 (h1 C M set key message sig) set.r a.challenges_drawn in
      let e11 = (bytes_eq-Decides (M.d 2 (listed C M set key message sig)) (σ0_in sig)).1 a.digest in
      then_from (set_of set) _ _ (unless_true (good set) BadSet e1)
      (then_from (message_of message) _ _ (unless_true _ MessageTooLong e2)
      (then_from (verify_buffers_of set map list) _ _
      (then_from (unless (leb (reads (coefficients_of set)) map) (BufferLength Signature Map)) _ _ (unless_true _ _ e3) (unless_true _ _ e4))
      (then_from (key_of C.q C.bits set key) _ _
      (then_from (set_of set) _ _ (unless_true (good set) BadSet e1) (then_from (length_of (key_length C.bits set) key) _ _ (unless_true _ KeyLength e5) e6))
      (then_from (vectors_of C.q C.bits set sig) _ _
      (then_from (set_of set) _ _ (unless_true (good set) BadSet e1) (then_from (unless (eqb (length sig) (signature_length C.bits set)) SignatureLength) _ _ (unless_true _ SignatureLength e7) e8))
      (then_from (told (drawn C M 8 (seed C M set key message sig) (coefficients_of set))) _ _ e9
      (then_from (told (drawn C M 11 (h1 C M set key message sig) set.r)) _ _ e10 (unless_true _ NotAccepted e11)))))))

pub verdict : (C : Coding) (M : Meaning) → Coded C → (set : Set) (message : List ℕ) (map list : ℕ) (key sig : List ℕ) (r : Result (Unit {0}) Refusal)
    → r ≡ verify_of C M set message map list key sig → Verifies C M set message map list key sig r
verdict C M K set message map list key sig r e = record {
  sound = λ h. accepts C M K set message map list key sig (sym e ∙ h);
  complete = λ a. e ∙ is_accepted C M K set message map list key sig a;
}
