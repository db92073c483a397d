-- Parts of bytes that were put together.
use Rattle.std.proofs.Common.{◌≡◌, ℕ, ◌+◌, ◌≤◌, List, ◌++◌, length, take, drop, sym, ap, ◌∙◌, arith}
use Rattle.std.proofs.lemmas.List.{length-take, length-drop, take_all, take-append-le, drop-append-le, drop_at, drop-drop, get_or-take, get_or-drop}
use Rattle.field.specs.Codes.{Codes, Vector}
use Rattle.wire.specs.Layout.{part}

pub part_length : (xs : List ℕ) (at len : ℕ) → at + len ≤ length xs → length (part xs at len) ≡ len
part_length xs at len h = simp (length-take, length-drop) (omega arith)

pub part_left : (xs ys : List ℕ) (at len : ℕ) → at + len ≤ length xs → part (xs ++ ys) at len ≡ part xs at len
part_left xs ys at len h =
    ap (take len) (drop-append-le at xs ys (omega arith)) ∙ take-append-le len (drop at xs) ys (simp length-drop (omega arith))

pub part_right : (xs ys : List ℕ) (at len n k : ℕ) → length xs ≡ n → at ≡ n + k → part (xs ++ ys) at len ≡ part ys k len
part_right xs ys at len n k e h =
    ap (take len)
    (ap (λ (i : ℕ). drop i (xs ++ ys)) h ∙ sym (drop-drop k n (xs ++ ys)) ∙ ap (drop k) (drop_at xs ys n e))

pub part_all : (xs : List ℕ) (len : ℕ) → length xs ≡ len → part xs 0 len ≡ xs
part_all xs len e = take_all len xs (omega arith)

-- a part of codes is a vector
pub part_codes : (q : ℕ) (xs : List ℕ) (at len : ℕ) → at + len ≤ length xs → Codes q xs → Vector q len (part xs at len)
part_codes q xs at len fits h = record {
  long = part_length xs at len fits;
  codes = λ k l. let e = part_length xs at len fits in rw (get_or-take len (drop at xs) k 0 (omega arith), get_or-drop at xs k 0) (h (at + k) (omega arith));
}
