-- A signature that was given, as verification reads it: its parts, its challenges, and the list that its responses open.
use Rattle.std.proofs.Common.{◌≡◌, ℕ, ◌*◌, ◌<◌, List, ◌++◌, length, sym, ap, ◌∙◌, subst, ap₂, inl, inr, arith}
use Rattle.field.specs.Codes.{Vector}
use Rattle.field.specs.Coding.{Coding, Coded}
use Rattle.packing.specs.Packed.{width, packed, elements}
use Rattle.packing.specs.Laws.{Wrong}
use Rattle.params.specs.declared.Set.{Set}
use Rattle.params.specs.Sizes.{coefficients_of, signature_length}
use Rattle.wire.specs.Layout.{part, t1_at, e1_at, response_at, Faulty}
use Rattle.suite.specs.Meaning.{Meaning, Lawful}
use Rattle.algebra.specs.Quad.{size, F}
use Rattle.scheme.specs.Rounds.{chosen_by_bit}
use Rattle.scheme.specs.Challenges.{D_of, h1_of, h2_of, bit_of, alpha_of}
use Rattle.scheme.specs.Signing.{round_seed, pool_size, r0, r1, c0, c1, t1, e1, first_answer, pool, answers, responses, list, others, σ0, α_of, σ1, bit_of_round, coefficients, secret_vector, R, D, signature}
use Rattle.scheme.specs.Verifying.{R_in, σ0_in, σ1_in, t1_in, e1_in, response_in, other_in, recomputed, commitment, commitments}
use Rattle.scheme.proofs.Rounds.{rounds_cong}
use Rattle.scheme.proofs.Draws.{taken_codes}
use Rattle.scheme.proofs.Unpacked.{packed_long, unpacked, none_in_signature}
use Rattle.scheme.proofs.Honest as honest
use Rattle.scheme.proofs.Honest.{From, by_bit}
use Rattle.scheme.proofs.Sections as sections
use Rattle.scheme.proofs.Sections.{Made}
use Rattle.scheme.proofs.Given.{Given}

module _ (C : Coding) (M : Meaning) (K : Coded C) (L : Lawful M) (set : Set) (message k S sig : List ℕ) (g : Given C M set message k S sig) where
  abbrev pub cs : List ℕ
  cs = coefficients C M set k S message

  abbrev pub s : List ℕ
  s = secret_vector C M set k S message

  abbrev pub digest : List ℕ
  digest = D C M set k S message

  abbrev base : List ℕ
  base = σ0 C M set cs s k digest

  abbrev drew : ℕ → List ℕ
  drew = pool C M set k digest

  abbrev pub α : ℕ → ℕ
  α = α_of C M set cs s k digest

  abbrev pub bit : ℕ → ℕ
  bit = bit_of_round C M set cs s k digest

  -- every round is honest
  pub map_ok : Vector C.q (set.m * size set.n) cs
  map_ok = taken_codes C M 8 S (coefficients_of set) g.map_drawn

  pub secret_ok : Vector C.q set.n s
  secret_ok = taken_codes C M 9 k set.n g.secret_drawn

  pool_ok : (i : ℕ) → i < set.r → Vector C.q (pool_size set) (drew i)
  unfolding pool
  pool_ok i l = taken_codes C M 10 (round_seed M k digest i) (pool_size set) (g.pools_drawn i l)

  α_ok : (i : ℕ) → i < set.r → α i < C.q
  unfolding α_of
  α_ok i l =
      let t = taken_codes C M 11 (h1_of M digest base) set.r g.challenges_drawn in
      t.codes i (omega (arith, t.long))

  from : (i : ℕ) → i < set.r → From C set cs s (drew i) (α i)
  from i l = record { map_ok = map_ok; secret_ok = secret_ok; pool_ok = pool_ok i l; challenge_ok = α_ok i l }

  bit_small : (i : ℕ) → bit i < 2
  unfolding bit_of_round
  bit_small i = omega arith

  -- what it is made of
  abbrev answer : ℕ → List ℕ
  answer i = first_answer C set cs (drew i) (α i)

  abbrev chosen : ℕ → List ℕ
  chosen i = chosen_by_bit (bit i) (r0 set (drew i)) (r1 C set s (drew i))

  abbrev response : ℕ → List ℕ
  response i = packed C.bits (chosen i)

  abbrev other : ℕ → List ℕ
  other i = chosen_by_bit (bit i) (c1 C M set cs s (drew i)) (c0 C M set (drew i))

  base_long : length base ≡ 32
  unfolding σ0
  base_long = L.digest_long 2 _

  c0_long : (i : ℕ) → length (c0 C M set (drew i)) ≡ 32
  unfolding c0
  c0_long i = L.digest_long 0 _

  c1_long : (i : ℕ) → length (c1 C M set cs s (drew i)) ≡ 32
  unfolding c1
  c1_long i = L.digest_long 1 _

  chosen_ok : (i : ℕ) → i < set.r → Vector C.q set.n (chosen i)
  chosen_ok i l = honest.response_ok C M K set cs s (drew i) (α i) (from i l) (bit i)

  made : Made C.bits set (R C M set k S message) base answer response other
  made = record {
    R_long = L.digest_long 3 _;
    σ0_long = base_long;
    answer_long = λ i l. honest.answer_long C M K set cs s (drew i) (α i) (from i l);
    response_long = λ i l. packed_long C K set.n (chosen i) (chosen_ok i l);
    other_long = λ i l. by_bit (λ (x : List ℕ). length x ≡ 32) (bit i) (c1 C M set cs s (drew i)) (c0 C M set (drew i)) (c1_long i) (c0_long i);
  }

  abbrev whole : List ℕ
  whole = sections.whole C.bits set (R C M set k S message) base answer response other made

  whole_is : sig ≡ whole
  unfolding signature σ1 answers responses others
  whole_is = g.sig_is

  pub sig_long : length sig ≡ signature_length C.bits set
  sig_long = ap length whole_is ∙ sections.whole_long C.bits set _ base answer response other made

  -- the challenges
  pub D_is : D_of M (R_in sig) message ≡ digest
  D_is = ap (λ (x : List ℕ). D_of M x message) (ap R_in whole_is ∙ sections.R_is C.bits set _ base answer response other made)

  pub σ0_is : σ0_in sig ≡ base
  σ0_is = ap σ0_in whole_is ∙ sections.σ0_is C.bits set _ base answer response other made

  σ1_is : σ1_in C.bits set sig ≡ σ1 C M set cs s k digest
  unfolding σ1 answers
  σ1_is = ap (σ1_in C.bits set) whole_is ∙ sections.σ1_is C.bits set _ base answer response other made

  pub h1_is : h1_of M (D_of M (R_in sig) message) (σ0_in sig) ≡ h1_of M digest base
  h1_is = ap₂ (h1_of M) D_is σ0_is

  pub α_is : alpha_of C M set.r (h1_of M (D_of M (R_in sig) message) (σ0_in sig)) ≡ α
  unfolding α_of
  α_is = ap (alpha_of C M set.r) h1_is

  pub bit_is : bit_of M (h2_of M (D_of M (R_in sig) message) (σ0_in sig) (σ1_in C.bits set sig)) ≡ bit
  unfolding bit_of_round
  bit_is = ap (bit_of M) (ap₂ (λ (x y : List ℕ). h2_of M x y (σ1_in C.bits set sig)) D_is σ0_is ∙ ap (h2_of M digest base) σ1_is)

  -- the vectors of round i
  module _ (i : ℕ) (l : i < set.r) where
    t1_bytes : part sig (t1_at C.bits set i) (width C.bits set.n) ≡ packed C.bits (t1 C set cs (drew i) (α i))
    t1_bytes =
        ap (λ (x : List ℕ). part x (t1_at C.bits set i) (width C.bits set.n)) whole_is
        ∙ sections.t1_part C.bits set _ base answer response other made i l
        ∙ honest.answer_t C M K set cs s (drew i) (α i) (from i l)

    e1_bytes : part sig (e1_at C.bits set i) (width C.bits set.m) ≡ packed C.bits (e1 C set cs (drew i) (α i))
    e1_bytes =
        ap (λ (x : List ℕ). part x (e1_at C.bits set i) (width C.bits set.m)) whole_is
        ∙ sections.e1_part C.bits set _ base answer response other made i l
        ∙ honest.answer_e C M K set cs s (drew i) (α i) (from i l)

    response_bytes : part sig (response_at C.bits set i) (width C.bits set.n) ≡ response i
    response_bytes =
        ap (λ (x : List ℕ). part x (response_at C.bits set i) (width C.bits set.n)) whole_is
        ∙ sections.response_part C.bits set _ base answer response other made i l

    other_is : other_in C.bits set sig i ≡ other i
    other_is = ap (λ (x : List ℕ). other_in C.bits set x i) whole_is ∙ sections.other_part C.bits set _ base answer response other made i l

    t1_ok : Vector C.q set.n (t1 C set cs (drew i) (α i))
    t1_ok = honest.t1_ok C M K set cs s (drew i) (α i) (from i l)

    e1_ok : Vector C.q set.m (e1 C set cs (drew i) (α i))
    e1_ok = honest.e1_ok C M K set cs s (drew i) (α i) (from i l)

    t1_is : t1_in C.bits set sig i ≡ t1 C set cs (drew i) (α i)
    t1_is = ap (elements C.bits set.n) t1_bytes ∙ unpacked C K set.n _ t1_ok

    e1_is : e1_in C.bits set sig i ≡ e1 C set cs (drew i) (α i)
    e1_is = ap (elements C.bits set.m) e1_bytes ∙ unpacked C K set.m _ e1_ok

    response_is : response_in C.bits set sig i ≡ chosen i
    response_is = ap (elements C.bits set.n) response_bytes ∙ unpacked C K set.n _ (chosen_ok i l)

  -- none is faulty
  pub lawful : (number place : ℕ) → Faulty C.q C.bits set sig number place → ⊥
  lawful number place f =
      let i : ℕ = f.0 in
      let l : i < set.r = f.1 in
      elim f.2 [
        | inl w ↦ none_in_signature C K set.n _ (t1_ok i l) (t1_at C.bits set i) number place
            (subst (λ (x : List ℕ). Wrong C.q C.bits (t1_at C.bits set i) set.n x number place) (t1_bytes i l) w)
        | inr (inl w) ↦ none_in_signature C K set.m _ (e1_ok i l) (e1_at C.bits set i) number place
            (subst (λ (x : List ℕ). Wrong C.q C.bits (e1_at C.bits set i) set.m x number place) (e1_bytes i l) w)
        | inr (inr w) ↦ none_in_signature C K set.n _ (chosen_ok i l) (response_at C.bits set i) number place
            (subst (λ (x : List ℕ). Wrong C.q C.bits (response_at C.bits set i) set.n x number place) (response_bytes i l) w)
      ]

  -- the responses open what was committed
  module _ (v : List ℕ) (v_is : v ≡ F C.ops set.m set.n cs s) where
    commit0 : (i : ℕ) → i < set.r → commitment C M set cs v sig α bit i 0 ≡ c0 C M set (drew i)
    unfolding commitment recomputed
    commit0 i l =
        honest.side0 C M K set cs s (drew i) (α i) (from i l) v v_is (t1_in C.bits set sig i) (e1_in C.bits set sig i) (response_in C.bits set sig i) (other_in C.bits set sig i)
        (t1_is i l) (e1_is i l) (bit i) (bit_small i) (response_is i l) (other_is i l)

    commit1 : (i : ℕ) → i < set.r → commitment C M set cs v sig α bit i 1 ≡ c1 C M set cs s (drew i)
    unfolding commitment recomputed
    commit1 i l =
        honest.side1 C M K set cs s (drew i) (α i) (from i l) v v_is (t1_in C.bits set sig i) (e1_in C.bits set sig i) (response_in C.bits set sig i) (other_in C.bits set sig i)
        (t1_is i l) (e1_is i l) (bit i) (bit_small i) (response_is i l) (other_is i l)

    pub list_is : M.d 2 (commitments C M set cs v sig α bit) ≡ σ0_in sig
    unfolding commitments σ0 list
    list_is = ap (M.d 2) (rounds_cong set.r _ _ (λ i l. ap₂ ◌++◌ (commit0 i l) (commit1 i l))) ∙ sym σ0_is
