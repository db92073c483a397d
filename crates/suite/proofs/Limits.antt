-- What a suite's calls come to within their limits: what has to be shown of an answer where a suite writes a call itself.
use Rattle.std.proofs.Common.{◌≡◌, ℕ, ◌+◌, ◌≤◌, List, ◌++◌, length, Ok, sym, ap, ◌∙◌}
use Rattle.std.proofs.lemmas.Bool.{le-leb}
use Rattle.refusal.specs.Outcome.{told, written}
use Rattle.suite.specs.Meaning.{Meaning}
use Rattle.suite.specs.Calls.{first, digest_of, stream_of}

module _ (M : Meaning) (label : ℕ) where
  digest_ok : (head tail : List ℕ) → length head + length tail ≤ 131072 → digest_of M label head tail ≡ Ok (M.d label (head ++ tail))
  digest_ok head tail h = rw (le-leb (length head + length tail) 131072 h)

  pub record Digested (head tail out : List ℕ) : Type 0 where
    pub answer : Ok tt ≡ told (digest_of M label head tail)
    pub bytes : out ≡ written 32 (digest_of M label head tail)

  pub digested : (head tail out : List ℕ) → length head + length tail ≤ 131072 → out ≡ M.d label (head ++ tail) → Digested head tail out
  digested head tail out h e =
      let ok = digest_ok head tail h in
      record { answer = sym (ap told ok); bytes = e ∙ sym (ap (written 32) ok) }

  stream_ok : (seed : List ℕ) (n : ℕ) → n ≤ 262144 → stream_of M label seed n ≡ Ok (first (M.e label seed) n)
  stream_ok seed n h = rw (le-leb n 262144 h)

  pub record Streamed (seed : List ℕ) (n : ℕ) (out : List ℕ) : Type 0 where
    pub answer : Ok tt ≡ told (stream_of M label seed n)
    pub bytes : out ≡ written n (stream_of M label seed n)

  pub streamed : (seed : List ℕ) (n : ℕ) (out : List ℕ) → n ≤ 262144 → out ≡ first (M.e label seed) n → Streamed seed n out
  streamed seed n out h e =
      let ok = stream_ok seed n h in
      record { answer = sym (ap told ok); bytes = e ∙ sym (ap (written n) ok) }
