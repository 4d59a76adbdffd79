-- A string is read item by item.
use Rattle.std.proofs.Common.{◌≡◌, ℕ, zero, suc, ◌+◌, ◌≤◌, ◌<◌, ◌&&◌, ◌==◌, Bool, true, false, List, [], ◌∷◌, length, drop, refl, arith}
use Rattle.std.specs.Prelude.{if◌then◌else◌}
use Rattle.cm_tree.specs.Pieces.{Text, is_plain, is_escape}
use Rattle.cm_lexer.specs.Scan.{item_len, body_len}

-- where an item stands at the front, the string goes on behind it
pub body_step : (text : Text) → 0 < item_len text → body_len text ≡ item_len text + body_len (drop (item_len text) text)
unfolding item_len body_len
body_step [] some = absurd (omega arith)
body_step (byte ∷ []) some = by_plain (is_plain byte) some where
  by_plain : (b : Bool) → 0 < (if b then 1 else 0) → (if b then 1 else 0) ≡ (if b then 1 else 0) + body_len (drop (if b then 1 else 0) (byte ∷ []))
  by_plain true some = refl
  by_plain false some = absurd (omega arith)
body_step (byte ∷ next ∷ text) some = by_plain (is_plain byte) (byte == 92 && is_escape next) some where
  by_plain : (b c : Bool) → 0 < (if b then 1 else (if c then 2 else 0))
      → (if b then body_len (next ∷ text) + 1 else (if c then body_len text + 2 else 0)) ≡ (if b then 1 else (if c then 2 else 0)) + body_len (drop (if b then 1 else (if c then 2 else 0)) (byte ∷ next ∷ text))
  by_plain true c some = omega arith
  by_plain false true some = omega arith
  by_plain false false some = absurd (omega arith)

-- and where none does, it ends there
pub body_end : (text : Text) → item_len text ≡ 0 → body_len text ≡ 0
unfolding item_len body_len
body_end [] none = refl
body_end (byte ∷ []) none = none
body_end (byte ∷ next ∷ text) none = by_plain (is_plain byte) (byte == 92 && is_escape next) none where
  by_plain : (b c : Bool) → ◌≡◌ {A = ℕ} (if b then 1 else (if c then 2 else 0)) 0 → (if b then body_len (next ∷ text) + 1 else (if c then body_len text + 2 else 0)) ≡ 0
  by_plain true c none = absurd (omega arith)
  by_plain false true none = absurd (omega arith)
  by_plain false false none = refl
