-- The test of all entries of a vector.
use Rattle.std.proofs.Common.{◌≡◌, ℕ, zero, suc, Bool, true, false, ◌&&◌, T, ltb, List, [], ◌∷◌, fold, refl, sym, ◌∙◌, arith}
use Rattle.std.proofs.lemmas.Bool.{ltb-true}
use Rattle.field.specs.Codes.{Codes}
use Rattle.export.specs.Maps.{coded}

both : (a b : Bool) → a && b ≡ true → (a ≡ true) × (b ≡ true)
both true true h = (refl, refl)
both true false h = (refl, h)
both false b h = (h, absurd_of h)
  where
    absurd_of : false ≡ true → b ≡ true
    absurd_of e = cc

pub codes_of_lem : (v : List ℕ) → coded v ≡ true → Codes 31 v
codes_of_lem [] h k l = absurd (omega arith)
codes_of_lem (x ∷ xs) h zero l = ltb-true x 31 (both (ltb x 31) (coded xs) h).0
codes_of_lem (x ∷ xs) h (suc k) l = codes_of_lem xs (both (ltb x 31) (coded xs) h).1 k (omega arith)

assoc : (a b c : Bool) → a && (b && c) ≡ (a && b) && c
assoc true b c = refl
assoc false b c = refl

unit : (a : Bool) → a && true ≡ a
unit true = refl
unit false = refl

-- the fold over the entries, from what those before it gave
pub fold-coded : (ok : Bool) (v : List ℕ) → fold (λ a x. a && ltb x 31) ok v ≡ ok && coded v
fold-coded ok [] = sym (unit ok)
fold-coded ok (x ∷ xs) = fold-coded (ok && ltb x 31) xs ∙ sym (assoc ok (ltb x 31) (coded xs))

pub is_true : (b : Bool) → T b → b ≡ true
is_true true t = refl
is_true false t = elim t [ ]
