-- Writes one behind the other.
use Rattle.std.proofs.Common.{◌≡◌, ◌≤◌, ◌+◌, ℕ, List, ◌++◌, length, take, drop, Option, Some, None, Err, refl, sym, ap, ◌∙◌, append_assoc, arith, length-drop}
use Rattle.std.proofs.Math.Seq.{take-add}
use Rattle.voy_disk.specs.declared.sink.SinkError.{SinkError}
use Rattle.voy_disk.specs.declared.sink.SinkError.TheVariants.{Failed, NoMemory}
use Rattle.voy_disk.specs.Written.{grown, GotFront, Writes}

-- the first bytes as far as at, and then n of those behind them, are the first at + n
pub grown-grown : (old : Option (List ℕ)) (bytes : List ℕ) (at n : ℕ) → grown (grown old (take at bytes)) (take n (drop at bytes)) ≡ grown old (take (at + n) bytes)
grown-grown None bytes at n = refl
grown-grown (Some w) bytes at n = ap (λ front. Some front) (append_assoc w (take at bytes) (take n (drop at bytes)) ∙ ap (λ front. w ++ front) (sym (take-add at n bytes)))

module _ (bytes : List ℕ) (at : ℕ) (old mid new : Option (List ℕ)) (written : mid ≡ grown old (take at bytes)) (rest : List ℕ) (is_rest : rest ≡ drop at bytes) where
  -- n more bytes of those that were left
  pub written_more : (n : ℕ) → new ≡ grown mid (take n rest) → new ≡ grown old (take (at + n) bytes)
  written_more n is = is ∙ ap (λ w. grown w (take n rest)) written ∙ ap (λ r. grown (grown old (take at bytes)) (take n r)) is_rest ∙ grown-grown old bytes at n

  -- what a failed write of the rest leaves is a front of all
  pub front_at_error : (error : SinkError) → at ≤ length bytes → Writes rest (Err error) mid new → GotFront bytes old new
  front_at_error Failed within front = record {
    count = at + front.count;
    within = omega (arith, front.within, ap length is_rest, length-drop at bytes);
    is = written_more front.count front.is;
  }
  front_at_error NoMemory within same = record { count = at; within = within; is = same ∙ written }
