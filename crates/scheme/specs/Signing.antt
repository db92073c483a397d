-- Signing: the rounds, the signature, and what the call comes to.
use Rattle.std.specs.Prelude.{ℕ, ◌+◌, ◌*◌, List, ◌++◌, length, Ok, Result, ◌==◌, nat_le}
use Rattle.refusal.specs.declared.Buffer.TheVariants.{Map, List as ListBuffer, Secret, Answer}
use Rattle.refusal.specs.declared.Layer.TheVariants.{Signature}
use Rattle.refusal.specs.declared.Refusal.{Refusal}
use Rattle.refusal.specs.declared.Refusal.TheVariants.{MessageTooLong, BufferLength}
use Rattle.refusal.specs.Outcome.{and_then, unless, told}
use Rattle.field.specs.Coding.{Coding, reads}
use Rattle.packing.specs.Packed.{packed}
use Rattle.params.specs.declared.Set.{Set}
use Rattle.params.specs.Sets.{set_of}
use Rattle.params.specs.Sizes.{coefficients_of, signature_length}
use Rattle.wire.specs.Layout.{part}
use Rattle.suite.specs.Meaning.{Meaning}
use Rattle.suite.specs.Drawn.{drawn}
use Rattle.algebra.specs.Quad.{F, G, vadd, vsub, scale}
use Rattle.keys.specs.Keys.{K_of, S_of, length_of}
use Rattle.scheme.specs.Rounds.{rounds, each, taken, two, chosen_by_bit}
use Rattle.scheme.specs.Challenges.{D_of, h1_of, h2_of, bit_of, alpha_of}

-- what the commitments are digests of: vectors packed one behind the other
module _ (b : ℕ) where
  abbrev pub X0 : List ℕ → List ℕ → List ℕ → List ℕ
  X0 r t e = packed b r ++ (packed b t ++ packed b e)

  abbrev pub X1 : List ℕ → List ℕ → List ℕ
  X1 r g = packed b r ++ packed b g

-- round i draws 2n + m elements with label 10 and the seed d(7, K ‖ D ‖ i)
abbrev pub round_seed : Meaning → List ℕ → List ℕ → ℕ → List ℕ
round_seed M K D i = M.d 7 (K ++ (D ++ two i))

abbrev pub pool_size : Set → ℕ
pool_size set = 2 * set.n + set.m

-- one round, from the elements that it drew: r0, t0 and e0
module _ (set : Set) (pool : List ℕ) where
  abbrev pub r0 : List ℕ
  r0 = part pool 0 set.n

  abbrev pub t0 : List ℕ
  t0 = part pool set.n set.n

  abbrev pub e0 : List ℕ
  e0 = part pool (2 * set.n) set.m

-- r1 = s - r0
abbrev pub r1 : Coding → Set → List ℕ → List ℕ → List ℕ
r1 C set s pool = vsub C.ops set.n s (r0 set pool)

-- c0 = d(0, r0 ‖ t0 ‖ e0) and c1 = d(1, r1 ‖ G(t0, r1) + e0)
unfoldable pub c0 : Coding → Meaning → Set → List ℕ → List ℕ
c0 C M set pool = M.d 0 (X0 C.bits (r0 set pool) (t0 set pool) (e0 set pool))

unfoldable pub c1 : Coding → Meaning → Set → List ℕ → List ℕ → List ℕ → List ℕ
c1 C M set cs s pool =
    M.d 1 (X1 C.bits (r1 C set s pool) (vadd C.ops set.m (G C.ops set.m set.n cs (t0 set pool) (r1 C set s pool)) (e0 set pool)))

module _ (C : Coding) (set : Set) (cs pool : List ℕ) (α : ℕ) where
  -- t1 = α·r0 - t0 and e1 = α·F(r0) - e0
  abbrev pub t1 : List ℕ
  t1 = vsub C.ops set.n (scale C.ops set.n α (r0 set pool)) (t0 set pool)

  abbrev pub e1 : List ℕ
  e1 = vsub C.ops set.m (scale C.ops set.m α (F C.ops set.m set.n cs (r0 set pool))) (e0 set pool)

  unfoldable pub first_answer : List ℕ
  first_answer = packed C.bits t1 ++ packed C.bits e1

-- all rounds, by K and D
module _ (C : Coding) (M : Meaning) (set : Set) (K D : List ℕ) where
  unfoldable pub pool : ℕ → List ℕ
  pool i = taken C M 10 (round_seed M K D i) (pool_size set)

  -- every round draws enough
  abbrev pub pools_of : Result (Unit {0}) Refusal
  pools_of = each set.r (λ i. told (drawn C M 10 (round_seed M K D i) (pool_size set)))

  -- the first answers to the challenges α, with the map's coefficients cs
  unfoldable pub answers : List ℕ → (ℕ → ℕ) → List ℕ
  answers cs α = rounds set.r (λ i. first_answer C set cs (pool i) (α i))

  -- r0 or r1 by the bits, with the secret vector s
  unfoldable pub responses : List ℕ → (ℕ → ℕ) → List ℕ
  responses s bit = rounds set.r (λ i. packed C.bits (chosen_by_bit (bit i) (r0 set (pool i)) (r1 C set s (pool i))))

-- and by the map's coefficients cs and the secret vector s
module _ (C : Coding) (M : Meaning) (set : Set) (cs s K D : List ℕ) where
  -- the commitment list, c0 ‖ c1 for each round
  unfoldable pub list : List ℕ
  list = rounds set.r (λ i. c0 C M set (pool C M set K D i) ++ c1 C M set cs s (pool C M set K D i))

  -- the commitments of the other sides, by the bits
  unfoldable pub others : (ℕ → ℕ) → List ℕ
  others bit = rounds set.r (λ i. chosen_by_bit (bit i) (c1 C M set cs s (pool C M set K D i)) (c0 C M set (pool C M set K D i)))

  -- σ0 = d(2, list), and the challenges that follow
  unfoldable pub σ0 : List ℕ
  σ0 = M.d 2 list

  unfoldable pub α_of : ℕ → ℕ
  α_of = alpha_of C M set.r (h1_of M D σ0)

  unfoldable pub σ1 : List ℕ
  σ1 = answers C M set K D cs α_of

  unfoldable pub bit_of_round : ℕ → ℕ
  bit_of_round = bit_of M (h2_of M D σ0 σ1)

-- the signature R ‖ σ0 ‖ σ1 ‖ σ2 of a message, with R = d(3, K ‖ M) and D = d(4, R ‖ M)
module _ (C : Coding) (M : Meaning) (set : Set) (K seed message : List ℕ) where
  -- the map's coefficients are drawn with label 8 and seed S, the secret vector with label 9 and seed K
  abbrev pub coefficients : List ℕ
  coefficients = taken C M 8 seed (coefficients_of set)

  abbrev pub secret_vector : List ℕ
  secret_vector = taken C M 9 K set.n

  abbrev pub R : List ℕ
  R = M.d 3 (K ++ message)

  abbrev pub D : List ℕ
  D = D_of M R message

  unfoldable pub signature : List ℕ
  signature =
      R ++ (σ0 C M set coefficients secret_vector K D
      ++ (σ1 C M set coefficients secret_vector K D
      ++ (responses C M set K D secret_vector (bit_of_round C M set coefficients secret_vector K D)
      ++ others C M set coefficients secret_vector K D (bit_of_round C M set coefficients secret_vector K D))))

  -- the drawings, in their order, and then the signature
  abbrev pub signed_of : Result (List ℕ) Refusal
  signed_of =
      and_then (told (drawn C M 9 K set.n)) (λ _.
      and_then (told (drawn C M 8 seed (coefficients_of set))) (λ _.
      and_then (pools_of C M set K D) (λ _.
      and_then (told (drawn C M 11 (h1_of M D (σ0 C M set coefficients secret_vector K D)) set.r)) (λ _.
      Ok signature))))

-- a message of at most 65,536 bytes, or 2
abbrev pub message_of : List ℕ → Result (Unit {0}) Refusal
message_of message = unless (nat_le (length message) 65536) MessageTooLong

-- the lengths of map, list, secret and answer, of which the smallest wrong place is told
abbrev pub sign_buffers_of : ℕ → Set → ℕ → ℕ → ℕ → ℕ → Result (Unit {0}) Refusal
sign_buffers_of b set map list secret answer =
    and_then (unless (nat_le (reads (coefficients_of set)) map) (BufferLength Signature Map)) (λ _.
    and_then (unless (nat_le (64 * set.r) list) (BufferLength Signature ListBuffer)) (λ _.
    and_then (unless (nat_le 1024 secret) (BufferLength Signature Secret)) (λ _.
    unless (answer == (signature_length b set)) (BufferLength Signature Answer))))

-- the signature of a message under a secret key, or the first refusal; map, list, secret and answer are the buffers' lengths
abbrev pub sign_of : Coding → Meaning → Set → List ℕ → ℕ → ℕ → ℕ → ℕ → List ℕ → Result (List ℕ) Refusal
sign_of C M set message map list secret answer key =
    and_then (set_of set) (λ _.
    and_then (message_of message) (λ _.
    and_then (sign_buffers_of C.bits set map list secret answer) (λ _.
    and_then (length_of 64 key) (λ _.
    signed_of C M set (K_of key) (S_of key) message))))
