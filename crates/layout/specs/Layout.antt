-- Document 01, layout.rs: `choose_log2_block`.
use Rattle.std.specs.Prelude.{ℕ, zero, suc, ◌^◌, max, min, cond, leb, [], ◌∷◌, fold, Option, unwrap_or}
use Rattle.layout.specs.declared.Evidence.{Evidence}

-- "the largest of 4,096, the five device figures and the request"; no request counts as 0
unfoldable pub need_of : Evidence → Option ℕ → ℕ
need_of e requested =
    fold max 4096 (e.logical_block ∷ e.physical_block ∷ e.optimal_write ∷ e.dio_mem_align ∷ e.dio_offset_align ∷ unwrap_or requested 0 ∷ [])

-- the first of k, k + 1 and so on, `more` of them, whose power of two is at or above n; k + more where none is
unfoldable pub log_from : ℕ → ℕ → ℕ → ℕ
log_from k zero n = k
log_from k (suc more) n = cond (leb n (2 ^ k)) k (log_from (suc k) more n)

-- "log of the least power of two at or above" n: from 0 on, and n is far enough, since 2^n is above n;
-- `log_least` (proofs/Least) says that it is
unfoldable pub log_at_or_above : ℕ → ℕ
log_at_or_above n = log_from 0 n n

-- "held to 12..16"; `above_2_31` (proofs/Least): "above 2^31 it is 16"
unfoldable pub choose_log2_block : Evidence → Option ℕ → ℕ
choose_log2_block e requested = max 12 (min (log_at_or_above (need_of e requested)) 16)
