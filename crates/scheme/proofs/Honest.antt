-- A round that is run honestly: its vectors are codes, and a response opens what was committed.
use Rattle.std.proofs.Common.{◌≡◌, ℕ, zero, suc, ◌+◌, ◌*◌, ◌<◌, Bool, true, false, cond, eqb, List, length, ap, ◌∙◌, ap₂, arith}
use Rattle.std.proofs.lemmas.List.{length-append}
use Rattle.field.specs.Codes.{Vector}
use Rattle.field.specs.Coding.{Coding, Coded}
use Rattle.packing.specs.Packed.{width, packed}
use Rattle.params.specs.declared.Set.{Set}
use Rattle.wire.specs.Layout.{part}
use Rattle.suite.specs.Meaning.{Meaning}
use Rattle.algebra.specs.Quad.{size, F}
use Rattle.algebra.specs.Laws.{Opens}
use Rattle.algebra.proofs.Below.{vsub_codes, scale_codes, F_codes}
use Rattle.algebra.proofs.OfCodes.{codes_complete}
use Rattle.scheme.specs.Rounds.{chosen_by_bit}
use Rattle.scheme.specs.Signing.{X0, X1, pool_size, r0, t0, e0, r1, c0, c1, t1, e1, first_answer}
use Rattle.scheme.specs.Verifying.{opening0, opening1, opened, commitment_of}
use Rattle.scheme.proofs.Parts.{part_codes, part_left, part_right, part_all}
use Rattle.scheme.proofs.Unpacked.{packed_long}

-- what holds of both holds of the one that a bit chooses
pub by_bit : {A : Type 0} (P : A → Type 0) (bit : ℕ) (x y : A) → P x → P y → P (chosen_by_bit bit x y)
by_bit {A} P bit x y p q = go (eqb bit 0)
  where
    go : (t : Bool) → P (cond t x y)
    go true = p
    go false = q

-- what an honest round is made from
pub record From (C : Coding) (set : Set) (cs s pool : List ℕ) (α : ℕ) : Type 0 where
  pub map_ok : Vector C.q (set.m * size set.n) cs
  pub secret_ok : Vector C.q set.n s
  pub pool_ok : Vector C.q (pool_size set) pool
  pub challenge_ok : α < C.q

module _ (C : Coding) (M : Meaning) (K : Coded C) (set : Set) (cs s pool : List ℕ) (α : ℕ) (h : From C set cs s pool α) where
  pub r0_ok : Vector C.q set.n (r0 set pool)
  r0_ok = part_codes C.q pool 0 set.n (omega (arith, h.pool_ok.long)) h.pool_ok.codes

  pub t0_ok : Vector C.q set.n (t0 set pool)
  t0_ok = part_codes C.q pool set.n set.n (omega (arith, h.pool_ok.long)) h.pool_ok.codes

  pub e0_ok : Vector C.q set.m (e0 set pool)
  e0_ok = part_codes C.q pool (2 * set.n) set.m (omega (arith, h.pool_ok.long)) h.pool_ok.codes

  pub r1_ok : Vector C.q set.n (r1 C set s pool)
  r1_ok = vsub_codes K.field set.n _ _ h.secret_ok.codes r0_ok.codes

  pub t1_ok : Vector C.q set.n (t1 C set cs pool α)
  t1_ok = vsub_codes K.field set.n _ _ (scale_codes K.field set.n _ _ h.challenge_ok r0_ok.codes).codes t0_ok.codes

  F0_ok : Vector C.q set.m (F C.ops set.m set.n cs (r0 set pool))
  F0_ok = F_codes K.field set.m set.n cs _ h.map_ok.codes r0_ok.codes

  pub e1_ok : Vector C.q set.m (e1 C set cs pool α)
  e1_ok = vsub_codes K.field set.m _ _ (scale_codes K.field set.m _ _ h.challenge_ok F0_ok.codes).codes e0_ok.codes

  pub answer_long : length (first_answer C set cs pool α) ≡ width C.bits set.n + width C.bits set.m
  unfolding first_answer
  answer_long =
      length-append (packed C.bits (t1 C set cs pool α)) (packed C.bits (e1 C set cs pool α))
      ∙ ap₂ ◌+◌ (packed_long C K set.n _ t1_ok) (packed_long C K set.m _ e1_ok)

  -- its two parts
  pub answer_t : part (first_answer C set cs pool α) 0 (width C.bits set.n) ≡ packed C.bits (t1 C set cs pool α)
  unfolding first_answer
  answer_t =
      let long = packed_long C K set.n _ t1_ok in
      part_left (packed C.bits (t1 C set cs pool α)) (packed C.bits (e1 C set cs pool α)) 0 (width C.bits set.n) (omega arith)
      ∙ part_all (packed C.bits (t1 C set cs pool α)) (width C.bits set.n) long

  pub answer_e : part (first_answer C set cs pool α) (width C.bits set.n) (width C.bits set.m) ≡ packed C.bits (e1 C set cs pool α)
  unfolding first_answer
  answer_e =
      part_right (packed C.bits (t1 C set cs pool α)) (packed C.bits (e1 C set cs pool α)) (width C.bits set.n) (width C.bits set.m) (width C.bits set.n) 0 (packed_long C K set.n _ t1_ok) (omega arith)
      ∙ part_all (packed C.bits (e1 C set cs pool α)) (width C.bits set.m) (packed_long C K set.m _ e1_ok)

  -- the response of either side
  pub response_ok : (bit : ℕ) → Vector C.q set.n (chosen_by_bit bit (r0 set pool) (r1 C set s pool))
  response_ok bit = by_bit (Vector C.q set.n) bit (r0 set pool) (r1 C set s pool) r0_ok r1_ok

  opens : Opens C.ops set.m set.n cs α (F C.ops set.m set.n cs s) (r0 set pool) (r1 C set s pool) (t0 set pool) (e0 set pool) (t1 C set cs pool α) (e1 C set cs pool α)
  opens = codes_complete K.field set.m set.n cs α s (r0 set pool) (t0 set pool) (e0 set pool) h.map_ok h.challenge_ok h.secret_ok r0_ok t0_ok e0_ok

  module _ (v : List ℕ) (v_is : v ≡ F C.ops set.m set.n cs s) where
    opens0 : M.d 0 (opening0 C set cs v α (t1 C set cs pool α) (e1 C set cs pool α) (r0 set pool)) ≡ c0 C M set pool
    unfolding opening0 c0
    opens0 = ap₂ (λ (t e : List ℕ). M.d 0 (X0 C.bits (r0 set pool) t e)) opens.first opens.value

    opens1 : M.d 1 (opening1 C set cs v α (t1 C set cs pool α) (e1 C set cs pool α) (r1 C set s pool)) ≡ c1 C M set cs s pool
    unfolding opening1 c1
    opens1 = rw v_is (ap (λ (g : List ℕ). M.d 1 (X1 C.bits (r1 C set s pool) g)) opens.second)

    -- both commitments of the round, from the one response and the other side's commitment
    module _ (t e r other : List ℕ) (t-is : t ≡ t1 C set cs pool α) (e-is : e ≡ e1 C set cs pool α) where
      abbrev again : ℕ → List ℕ
      again bit = M.d bit (opened C set cs v α t e r bit)

      pub side0 : (bit : ℕ) → bit < 2 → r ≡ chosen_by_bit bit (r0 set pool) (r1 C set s pool)
          → other ≡ chosen_by_bit bit (c1 C M set cs s pool) (c0 C M set pool) → commitment_of bit 0 (again bit) other ≡ c0 C M set pool
      side0 zero l r-is o = rw (t-is, e-is, r-is) opens0
      side0 (suc zero) l r-is o = o
      side0 (suc (suc i)) l r-is o = absurd (omega arith)

      pub side1 : (bit : ℕ) → bit < 2 → r ≡ chosen_by_bit bit (r0 set pool) (r1 C set s pool)
          → other ≡ chosen_by_bit bit (c1 C M set cs s pool) (c0 C M set pool) → commitment_of bit 1 (again bit) other ≡ c1 C M set cs s pool
      side1 zero l r-is o = o
      side1 (suc zero) l r-is o = rw (t-is, e-is, r-is) opens1
      side1 (suc (suc i)) l r-is o = absurd (omega arith)
