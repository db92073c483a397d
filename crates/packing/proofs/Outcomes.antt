-- What the public calls answer and write, from what their parts found.
use Rattle.std.proofs.Common.{◌≡◌, ℕ, ◌^◌, ◌≤◌, List, length, Ok, Err, Result, sym, ap, ◌∙◌, subst, refl}
use Rattle.refusal.specs.declared.Refusal.{Refusal}
use Rattle.refusal.specs.Outcome.{and_then, told, written}
use Rattle.std.proofs.lemmas.Bool.{eq-eqb}
use Rattle.packing.specs.Packed.{width, packed, elements, fault, first_not, refusing, pack_of, unpack_by}
use Rattle.packing.specs.declared.fault.Fault.{Fault}
use Rattle.packing.specs.Laws.{Packs, Judges}
use Rattle.packing.proofs.Firsts.{codes_from}
use Rattle.packing.proofs.Round.{pack_ok, packs}

-- a vector that was written
pub record Wrote (q b : ℕ) (v : List ℕ) (room : ℕ) (out : List ℕ) : Type 0 where
  pub answer : Ok tt ≡ told (pack_of q b v room)
  pub bytes : out ≡ written room (pack_of q b v room)
  pub law : Packs q b v out

pub wrote : (q b : ℕ) (v : List ℕ) (room : ℕ) (out : List ℕ) → 1 ≤ b → q ≤ 2 ^ b → room ≡ width b (length v) → first_not q v ≡ length v → out ≡ packed b v → Wrote q b v room out
wrote q b v room out some fits long none e =
    let ok = pack_ok q b v room long none in
    record {
      answer = sym (ap told ok);
      bytes = e ∙ sym (ap (written room) ok);
      law = subst (Packs q b v) (sym e) (packs q b v some fits (codes_from q v none));
    }

-- of bytes of the right length only what is wrong with them is told
module _ (f : Fault → Refusal) (q b k : ℕ) (bytes : List ℕ) (long : length bytes ≡ width b k) where
  told_is : told (unpack_by f q b k bytes) ≡ refusing f (fault q b k bytes)
  told_is = rw (eq-eqb (length bytes) (width b k) long) (go (refusing f (fault q b k bytes)))
    where
      go : (r : Result (Unit {0}) Refusal) → told (and_then r (λ _. Ok (elements b k bytes))) ≡ r
      go (Ok x) = refl
      go (Err e) = refl

  pub judged_by : (W : ℕ → ℕ → Type 0) (r : Result (Unit {0}) Refusal) → Judges W (refusing f (fault q b k bytes)) → r ≡ told (unpack_by f q b k bytes) → Judges W r
  judged_by W r j e = subst (Judges W) (sym (e ∙ told_is)) j
