-- The parts of a signature that was put together: R, σ0, σ1, the responses, the other sides' commitments.
use Rattle.std.proofs.Common.{◌≡◌, ℕ, suc, ◌+◌, ◌*◌, ◌<◌, ◌≤◌, List, ◌++◌, length, refl, ◌∙◌, mul-le-mul_right, arith}
use Rattle.std.proofs.lemmas.List.{length-append}
use Rattle.packing.specs.Packed.{width}
use Rattle.params.specs.declared.Set.{Set}
use Rattle.params.specs.Sizes.{signature_length}
use Rattle.wire.specs.Layout.{part, t1_at, e1_at, response_at}
use Rattle.scheme.specs.Rounds.{rounds}
use Rattle.scheme.specs.Verifying.{R_in, σ0_in, σ1_in, other_at, other_in}
use Rattle.scheme.proofs.Parts.{part_left, part_right, part_all}
use Rattle.scheme.proofs.Rounds.{rounds_length, rounds_sub, rounds_part}

-- what the parts are: lists of these lengths, the last three round by round
pub record Made (b : ℕ) (set : Set) (R σ0 : List ℕ) (answer response other : ℕ → List ℕ) : Type 0 where
  pub R_long : length R ≡ 32
  pub σ0_long : length σ0 ≡ 32
  pub answer_long : (i : ℕ) → i < set.r → length (answer i) ≡ width b set.n + width b set.m
  pub response_long : (i : ℕ) → i < set.r → length (response i) ≡ width b set.n
  pub other_long : (i : ℕ) → i < set.r → length (other i) ≡ 32

module _ (b : ℕ) (set : Set) (R σ0 : List ℕ) (answer response other : ℕ → List ℕ) (k : Made b set R σ0 answer response other) where
  abbrev w : ℕ
  w = width b set.n + width b set.m

  abbrev of_n : ℕ
  of_n = width b set.n

  abbrev answers : List ℕ
  answers = rounds set.r answer

  abbrev responses : List ℕ
  responses = rounds set.r response

  abbrev others : List ℕ
  others = rounds set.r other

  abbrev pub whole : List ℕ
  whole = R ++ (σ0 ++ (answers ++ (responses ++ others)))

  answers_long : length answers ≡ set.r * w
  answers_long = rounds_length set.r w answer k.answer_long

  responses_long : length responses ≡ set.r * of_n
  responses_long = rounds_length set.r of_n response k.response_long

  others_long : length others ≡ set.r * 32
  others_long = rounds_length set.r 32 other k.other_long

  pub whole_long : length whole ≡ signature_length b set
  whole_long =
      let h1 = k.R_long in
      let h2 = k.σ0_long in
      let h3 = answers_long in
      let h4 = responses_long in
      let h5 = others_long in
      simp length-append (omega arith)

  -- reading past R and σ0
  in_tail : (at n len : ℕ) → at ≡ 64 + n → part whole at len ≡ part (answers ++ (responses ++ others)) n len
  in_tail at n len e = part_right R _ at len 32 (32 + n) k.R_long (omega arith) ∙ part_right σ0 _ (32 + n) len 32 n k.σ0_long refl

  pub R_is : R_in whole ≡ R
  R_is = part_left R _ 0 32 (omega (arith, k.R_long)) ∙ part_all R 32 k.R_long

  pub σ0_is : σ0_in whole ≡ σ0
  σ0_is = part_right R _ 32 32 32 0 k.R_long refl ∙ part_left σ0 _ 0 32 (omega (arith, k.σ0_long)) ∙ part_all σ0 32 k.σ0_long

  pub σ1_is : σ1_in b set whole ≡ answers
  σ1_is = in_tail 64 0 (set.r * w) refl ∙ part_left answers _ 0 (set.r * w) (omega (arith, answers_long)) ∙ part_all answers (set.r * w) answers_long

  module _ (i : ℕ) (l : i < set.r) where
    row_fits : suc i * w ≤ set.r * w
    row_fits = mul-le-mul_right w l

    -- a part of the answer of round i
    answer_sub : (at j len : ℕ) → at ≡ 64 + i * w + j → j + len ≤ w → part whole at len ≡ part (answer i) j len
    answer_sub at j len e fits =
        in_tail at (i * w + j) len (omega arith)
        ∙ part_left answers _ (i * w + j) len (omega (arith, answers_long, row_fits))
        ∙ rounds_sub set.r w answer k.answer_long i j len l fits

    pub t1_part : part whole (t1_at b set i) of_n ≡ part (answer i) 0 of_n
    t1_part = answer_sub (t1_at b set i) 0 of_n (omega arith) (omega arith)

    pub e1_part : part whole (e1_at b set i) (width b set.m) ≡ part (answer i) of_n (width b set.m)
    e1_part = answer_sub (e1_at b set i) of_n (width b set.m) (omega arith) (omega arith)

    response_fits : suc i * of_n ≤ set.r * of_n
    response_fits = mul-le-mul_right of_n l

    pub response_part : part whole (response_at b set i) of_n ≡ response i
    response_part =
        in_tail (response_at b set i) (set.r * w + i * of_n) of_n (omega arith)
        ∙ part_right answers _ (set.r * w + i * of_n) of_n (set.r * w) (i * of_n) answers_long refl
        ∙ part_left responses _ (i * of_n) of_n (omega (arith, responses_long, response_fits))
        ∙ rounds_part set.r of_n response k.response_long i l

    pub other_part : other_in b set whole i ≡ other i
    other_part =
        in_tail (other_at b set i) (set.r * w + (set.r * of_n + i * 32)) 32 (omega arith)
        ∙ part_right answers _ (set.r * w + (set.r * of_n + i * 32)) 32 (set.r * w) (set.r * of_n + i * 32) answers_long refl
        ∙ part_right responses _ (set.r * of_n + i * 32) 32 (set.r * of_n) (i * 32) responses_long refl
        ∙ rounds_part set.r 32 other k.other_long i l
