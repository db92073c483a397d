-- What signing gives is accepted, under the key that was made of the same secret key.
use Rattle.std.proofs.Common.{◌≡◌, ℕ, ◌+◌, ◌*◌, ◌≤◌, List, ◌++◌, length, take, Ok, sym, refl, ap, ◌∙◌, subst, ap₂}
use Rattle.std.proofs.lemmas.List.{length-append, take_at, drop_at}
use Rattle.field.specs.Codes.{Vector}
use Rattle.field.specs.Coding.{Coding, Coded, reads}
use Rattle.packing.specs.Packed.{packed, elements}
use Rattle.packing.specs.Laws.{KeyWrong}
use Rattle.params.specs.declared.Set.{Set}
use Rattle.params.specs.Sizes.{coefficients_of, key_length}
use Rattle.suite.specs.Meaning.{Meaning, Lawful}
use Rattle.suite.specs.Drawn.{candidates}
use Rattle.algebra.specs.Quad.{F}
use Rattle.algebra.proofs.Below.{F_codes}
use Rattle.keys.specs.Keys.{K_of, S_of, KeyFaulty, vector_of}
use Rattle.scheme.specs.Rounds.{taken}
use Rattle.scheme.specs.Challenges.{D_of, h1_of, h2_of, bit_of, alpha_of}
use Rattle.scheme.specs.Verifying.{R_in, σ0_in, σ1_in, listed, commitments, verify_of, Accepts}
use Rattle.scheme.specs.Fits.{Signed}
use Rattle.scheme.proofs.Unpacked.{packed_long, unpacked, none_in_key}
use Rattle.scheme.proofs.Given.{Given, given, made_is}
use Rattle.scheme.proofs.Signs as signs
use Rattle.scheme.proofs.Verdict.{verdict}

module _ (C : Coding) (M : Meaning) (K : Coded C) (L : Lawful M) (set : Set) (message k S sig : List ℕ) (g : Given C M set message k S sig) where
  abbrev cs : List ℕ
  cs = signs.cs C M K L set message k S sig g

  abbrev s : List ℕ
  s = signs.s C M K L set message k S sig g

  abbrev α : ℕ → ℕ
  α = signs.α C M K L set message k S sig g

  abbrev bit : ℕ → ℕ
  bit = signs.bit C M K L set message k S sig g

  -- v = F(s)
  abbrev value : List ℕ
  value = F C.ops set.m set.n cs s

  value_ok : Vector C.q set.m value
  value_ok = F_codes K.field set.m set.n cs s (signs.map_ok C M K L set message k S sig g).codes (signs.secret_ok C M K L set message k S sig g).codes

  module _ (key : List ℕ) (key-is : key ≡ S ++ packed C.bits value) where
    seed_is : take 32 key ≡ S
    seed_is = ap (take 32) key-is ∙ take_at S (packed C.bits value) 32 g.seed_long

    vector_is : vector_of key ≡ packed C.bits value
    vector_is = ap vector_of key-is ∙ drop_at S (packed C.bits value) 32 g.seed_long

    key_long : length key ≡ key_length C.bits set
    key_long = ap length key-is ∙ length-append S (packed C.bits value) ∙ ap₂ ◌+◌ g.seed_long (packed_long C K set.m value value_ok)

    key_lawful : (number place : ℕ) → KeyFaulty C.q C.bits set key number place → ⊥
    key_lawful number place w =
        none_in_key C K set.m value value_ok number place (subst (λ (x : List ℕ). KeyWrong C.q C.bits set.m x number place) vector_is w)

    v_is : elements C.bits set.m (vector_of key) ≡ value
    v_is = ap (elements C.bits set.m) vector_is ∙ unpacked C K set.m value value_ok

    -- the list that verification works out is the one that was committed
    listed_is : listed C M set key message sig ≡ commitments C M set cs (elements C.bits set.m (vector_of key)) sig α bit
    unfolding listed
    listed_is =
        let v : List ℕ = elements C.bits set.m (vector_of key) in
        let α' : ℕ → ℕ = alpha_of C M set.r (h1_of M (D_of M (R_in sig) message) (σ0_in sig)) in
        let bit' : ℕ → ℕ = bit_of M (h2_of M (D_of M (R_in sig) message) (σ0_in sig) (σ1_in C.bits set sig)) in
        ap (λ (x : List ℕ). commitments C M set (taken C M 8 x (coefficients_of set)) v sig α' bit') seed_is
        ∙ ap₂ (commitments C M set cs v sig) (signs.α_is C M K L set message k S sig g) (signs.bit_is C M K L set message k S sig g)

    accepted : (map list : ℕ) → reads (coefficients_of set) ≤ map → 64 * set.r ≤ list → Accepts C M set message map list key sig
    accepted map list h l = record {
      set_good = g.set_good;
      message_short = g.message_short;
      map_fits = h;
      list_fits = l;
      key_long = key_long;
      key_lawful = key_lawful;
      long = signs.sig_long C M K L set message k S sig g;
      lawful = signs.lawful C M K L set message k S sig g;
      map_drawn = subst (λ (x : List ℕ). coefficients_of set ≤ length (candidates C M 8 x (coefficients_of set))) (sym seed_is) g.map_drawn;
      challenges_drawn = subst (λ (x : List ℕ). set.r ≤ length (candidates C M 11 x set.r)) (sym (signs.h1_is C M K L set message k S sig g)) g.challenges_drawn;
      digest = ap (M.d 2) listed_is ∙ signs.list_is C M K L set message k S sig g (elements C.bits set.m (vector_of key)) v_is;
    }

pub fits : (C : Coding) (M : Meaning) → Coded C → Lawful M → (set : Set) (message : List ℕ) (map list : ℕ) (key sig : List ℕ) → Signed C M set message key sig
    → reads (coefficients_of set) ≤ map → 64 * set.r ≤ list → verify_of C M set message map list key sig ≡ Ok tt
fits C M K L set message map list key sig p h l =
    let lent = p.signing in
    let g = given C M set message lent.map lent.list lent.secret lent.answer p.secret sig p.signed in
    let key-is = made_is C M set message p.making.map p.making.secret p.making.answer p.secret key p.made in
    (verdict C M K set message map list key sig (verify_of C M set message map list key sig) refl).complete
    (accepted C M K L set message (K_of p.secret) (S_of p.secret) sig g key key-is map list h l)
