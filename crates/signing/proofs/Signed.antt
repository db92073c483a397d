-- The signature's sections, put together: the challenges that the code drew are those of the scheme.
use Rattle.std.proofs.Common.{◌≡◌, ℕ, ◌+◌, ◌*◌, ◌%◌, ◌<◌, ◌≤◌, List, ◌++◌, length, get_or, take, drop, sym, ap, ◌∙◌, ap₂, append_assoc, arith, length-append}
use Rattle.std.proofs.lemmas.List.FromFn.{get_or-map-range_with_len}
use Rattle.std.proofs.lemmas.List.{drop-take, drop_at}
use Rattle.field.specs.Coding.{Coding}
use Rattle.packing.specs.Packed.{packed}
use Rattle.params.specs.declared.Set.{Set}
use Rattle.suite.specs.Meaning.{Meaning, Lawful}
use Rattle.suite.specs.Calls.{first}
use Rattle.wire.specs.Layout.{part}
use Rattle.scheme.specs.Rounds.{taken, chosen_by_bit}
use Rattle.scheme.specs.Challenges.{h1_of, h2_of}
use Rattle.scheme.specs.Signing.{pool, c0, c1, r0, r1, list, answers, responses, others, σ0, σ1, α_of, bit_of_round}
use Rattle.scheme.proofs.Parts.{part_left, part_right, part_all}
use Rattle.scheme.proofs.Rounds.{rounds_cong, rounds_sub}
use Rattle.signing.specs.Steps.{carried, behind_r}

module _ (C : Coding) (M : Meaning) (law : Lawful M) (set : Set) (cs s K D : List ℕ) where
  c0_long : (i : ℕ) → length (c0 C M set (pool C M set K D i)) ≡ 32
  unfolding c0
  c0_long i = law.digest_long 0 _

  c1_long : (i : ℕ) → length (c1 C M set cs s (pool C M set K D i)) ≡ 32
  unfolding c1
  c1_long i = law.digest_long 1 _

  abbrev entry : ℕ → List ℕ
  entry i = c0 C M set (pool C M set K D i) ++ c1 C M set cs s (pool C M set K D i)

  entry_long : (i : ℕ) → length (entry i) ≡ 64
  entry_long i = length-append (c0 C M set (pool C M set K D i)) (c1 C M set cs s (pool C M set K D i)) ∙ omega (arith, c0_long i, c1_long i)

  -- the two commitments of a round, in the list
  module _ (i : ℕ) (l : i < set.r) where
    in_list : (k : ℕ) → k + 32 ≤ 64 → part (list C M set cs s K D) (i * 64 + k) 32 ≡ part (entry i) k 32
    unfolding list
    in_list k h = rounds_sub set.r 64 entry (λ j _. entry_long j) i k 32 l h

    first_in : part (list C M set cs s K D) (i * 64) 32 ≡ c0 C M set (pool C M set K D i)
    first_in =
        let z : i * 64 ≡ i * 64 + 0 = omega arith in
        ap (λ (a : ℕ). part (list C M set cs s K D) a 32) z ∙ in_list 0 (omega arith)
        ∙ part_left (c0 C M set (pool C M set K D i)) (c1 C M set cs s (pool C M set K D i)) 0 32 (omega (arith, c0_long i)) ∙ part_all (c0 C M set (pool C M set K D i)) 32 (c0_long i)

    second_in : part (list C M set cs s K D) (i * 64 + 32) 32 ≡ c1 C M set cs s (pool C M set K D i)
    second_in =
        in_list 32 (omega arith)
        ∙ part_right (c0 C M set (pool C M set K D i)) (c1 C M set cs s (pool C M set K D i)) 32 32 32 0 (c0_long i) (omega arith) ∙ part_all (c1 C M set cs s (pool C M set K D i)) 32 (c1_long i)

  -- what is carried by bits that are the scheme's
  carried_others : (bits ls : List ℕ) (bit : ℕ → ℕ) → ls ≡ list C M set cs s K D → ((i : ℕ) → i < set.r → get_or bits i 0 % 2 ≡ bit i) → carried set ls bits ≡ others C M set cs s K D bit
  unfolding others
  carried_others bits ls bit e h =
      ap (λ (x : List ℕ). carried set x bits) e
      ∙ rounds_cong set.r _ _ (λ i l. ap (λ (b : ℕ). chosen_by_bit b (part (list C M set cs s K D) (i * 64 + 32) 32) (part (list C M set cs s K D) (i * 64) 32)) (h i l) ∙ ap₂ (λ (x y : List ℕ). chosen_by_bit (bit i) x y) (second_in i l) (first_in i l))

  responses_by : (bits : List ℕ) (bit : ℕ → ℕ) → ((i : ℕ) → i < set.r → get_or bits i 0 % 2 ≡ bit i) → responses C M set K D s (λ i. get_or bits i 0 % 2) ≡ responses C M set K D s bit
  unfolding responses
  responses_by bits bit h =
      rounds_cong set.r _ _ (λ i l. ap (λ (b : ℕ). packed C.bits (chosen_by_bit b (r0 set (pool C M set K D i)) (r1 C set s (pool C M set K D i)))) (h i l))

  -- the answers to challenges that are the scheme's
  answers_by : (alphas h1 : List ℕ) → h1 ≡ h1_of M D (σ0 C M set cs s K D) → alphas ≡ taken C M 11 h1 set.r → answers C M set K D cs (λ i. get_or alphas i 0) ≡ σ1 C M set cs s K D
  unfolding σ1 α_of
  answers_by alphas h1 e f = ap (λ (xs : List ℕ). answers C M set K D cs (λ i. get_or xs i 0)) (f ∙ ap (λ (h : List ℕ). taken C M 11 h set.r) e)

  -- the bits from the front of the signature, where R, σ0 and the answers stand
  module _ (R base h1 alphas ans : List ℕ) (size : ℕ) (lR : length R ≡ 32) (lb : length base ≡ 32)
      (eb : base ≡ σ0 C M set cs s K D) (eh : h1 ≡ h1_of M D (σ0 C M set cs s K D)) (ea : alphas ≡ taken C M 11 h1 set.r)
      (front : take (64 + size) ans ≡ R ++ (base ++ answers C M set K D cs (λ i. get_or alphas i 0))) where
    middle : part ans 64 size ≡ σ1 C M set cs s K D
    middle =
        sym (drop-take 64 size ans) ∙ ap (drop 64) (front ∙ sym (append_assoc R base _))
        ∙ drop_at (R ++ base) (answers C M set K D cs (λ i. get_or alphas i 0)) 64 (length-append R base ∙ omega arith)
        ∙ answers_by alphas h1 eh ea

    seed : M.d 6 (D ++ (base ++ (h1 ++ part ans 64 size))) ≡ h2_of M D (σ0 C M set cs s K D) (σ1 C M set cs s K D)
    seed =
        ap (λ (x : List ℕ). M.d 6 (D ++ (x ++ (h1 ++ part ans 64 size)))) eb
        ∙ ap₂ (λ (x y : List ℕ). M.d 6 (D ++ (σ0 C M set cs s K D ++ (x ++ y)))) eh middle

    bits_are : (bits : List ℕ) (n : ℕ) → n ≡ set.r → bits ≡ first (M.e 12 (M.d 6 (D ++ (base ++ (h1 ++ part ans 64 size))))) n → (i : ℕ) → i < set.r → get_or bits i 0 % 2 ≡ bit_of_round C M set cs s K D i
    unfolding bit_of_round
    bits_are bits n e is i l =
        ap (λ (xs : List ℕ). get_or xs i 0 % 2) is
        ∙ ap (λ (x : ℕ). x % 2) (get_or-map-range_with_len (M.e 12 (M.d 6 (D ++ (base ++ (h1 ++ part ans 64 size))))) 0 n i i 0 (omega arith) (omega arith))
        ∙ ap (λ (h : List ℕ). M.e 12 h i % 2) seed

    pub whole : (bits ls out : List ℕ) (n : ℕ) → n ≡ set.r → ls ≡ list C M set cs s K D
        → bits ≡ first (M.e 12 (M.d 6 (D ++ (base ++ (h1 ++ part ans 64 size))))) n
        → out ≡ take (64 + size) ans ++ (responses C M set K D s (λ i. get_or bits i 0 % 2) ++ carried set ls bits)
        → out ≡ R ++ behind_r C M set cs s K D
    whole bits ls out n en el is e =
        let at = bits_are bits n en is in
        let σ2 : List ℕ = responses C M set K D s (bit_of_round C M set cs s K D) ++ others C M set cs s K D (bit_of_round C M set cs s K D) in
        e
        ∙ ap₂ ◌++◌ front (ap₂ ◌++◌ (responses_by bits (bit_of_round C M set cs s K D) at) (carried_others bits ls (bit_of_round C M set cs s K D) el at))
        ∙ ap (λ (x : List ℕ). (R ++ (base ++ x)) ++ σ2) (answers_by alphas h1 eh ea)
        ∙ ap (λ (x : List ℕ). (R ++ (x ++ σ1 C M set cs s K D)) ++ σ2) eb
        ∙ append_assoc R (σ0 C M set cs s K D ++ σ1 C M set cs s K D) σ2
        ∙ ap (λ (x : List ℕ). R ++ x) (append_assoc (σ0 C M set cs s K D) (σ1 C M set cs s K D) σ2)
