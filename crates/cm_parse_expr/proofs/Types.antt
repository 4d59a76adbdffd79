-- Types and arguments: what is spelled is read, and what is read is spelled.
use Rattle.std.proofs.Common.{◌≡◌, ℕ, zero, suc, ◌+◌, ◌-◌, ◌≤◌, Bool, true, false, cond, List, ◌∷◌, ◌++◌, None, Ok, Err, refl, ap, ◌∙◌, sym, inl, inr, append_assoc, lit≤, arith}
use Rattle.std.specs.Prelude.{nat_le}
use Rattle.cm_tree.specs.declared.token.Token.{Token}
use Rattle.cm_tree.specs.declared.token.TokenKind.{TokenKind}
use Rattle.cm_tree.specs.declared.token.TokenKind.TheVariants as k
use Rattle.cm_tree.specs.declared.sign.Sign.TheVariants as s
use Rattle.cm_tree.specs.declared.reserved.Reserved.TheVariants as w
use Rattle.cm_tree.specs.declared.path.Path.{Path}
use Rattle.cm_tree.specs.declared.expr.Expr.{Expr}
use Rattle.cm_tree.specs.declared.expr.Base.{Base}
use Rattle.cm_tree.specs.declared.expr.Expr.TheVariants as e
use Rattle.cm_tree.specs.declared.type_expr.TypeExpr.{TypeExpr}
use Rattle.cm_tree.specs.declared.type_expr.TypeExpr.TheVariants as y
use Rattle.cm_tree.specs.declared.type_expr.Arg.{Arg}
use Rattle.cm_tree.specs.declared.type_expr.Arg.TheVariants as v
use Rattle.cm_tree.specs.Heights.{sizes_height, sized, base_height, sized-is, base_height-Bool, base_height-Int, base_height-Int32, base_height-Int64, base_height-Wrap, base_height-Clamp}
use Rattle.cm_tree.specs.StmtHeights.{type_height, arg_height}
use Rattle.cm_tree.specs.Levels.{unary_level}
use Rattle.cm_tree.specs.Spelling.{IsSign, SpellsPath, SpellsExpr, SpellsSizes, SpellsBase, SpellsType, SpellsArg}
use Rattle.cm_tree.specs.Spelling as g
use Rattle.token_reader.specs.Parsers.{Outcome, Parser, and_then, ◌>>=◌, ◌<$>◌, pure, see, sees, expect, is_sign, same_sign}
use Rattle.token_reader.proofs.Inverses.{answer, bind_ok, if_ok, given, seen, sees_ok}
use Rattle.cm_parse_expr.specs.Reading.{begins_base, unary_of, colons, path, sizes, args, sized_base, construct_of, construct, atom, steps, post, climb, operation, tail, type_one, value_if, base_arg, arg_if, arg_one, binary, expr, type_expr, arg}
use Rattle.cm_parse_expr.proofs.Next.{Closed}
use Rattle.cm_parse_expr.proofs.Complete.{no_other, path_read, read, read_sizes, read_base, sized_base_read, atom_is, operand_is}
use Rattle.cm_parse_expr.proofs.Sound.{path_sound, sizes_sound, SizedGiven, sized_base_sound, Part, Sentence, construct_by, steps_sound, climb_sound, tail_sound, expr_sound, binary_sound, after_same}

-- ---- the first token of a type

base_begins : {x : Base} {u : List Token} → SpellsBase x u → (r : List Token) → sees begins_base (u ++ r) ≡ true
base_begins (g.bool t at) r = seen begins_base t r (k.Reserved w.Bool) at.kind true refl
base_begins (g.int t at) r = seen begins_base t r (k.Reserved w.Int) at.kind true refl
base_begins (g.int32 t at) r = seen begins_base t r (k.Reserved w.Int32) at.kind true refl
base_begins (g.int64 t at) r = seen begins_base t r (k.Reserved w.Int64) at.kind true refl
base_begins (g.wrap a t o c inner at ato le sp atc) r = seen begins_base t _ (k.Reserved w.Wrap) at.kind true refl
base_begins (g.clamp a t o c inner at ato le sp atc) r = seen begins_base t _ (k.Reserved w.Clamp) at.kind true refl

path_begins : {q : Path} {u : List Token} → SpellsPath q u → (r : List Token) → sees begins_base (u ++ r) ≡ false
path_begins (g.path t n ns others is spelled) r = seen begins_base t _ (k.Word n) is false refl

-- ---- types

base_least : {x : Base} {u : List Token} → SpellsBase x u → 1 ≤ base_height x
base_least (g.bool t at) = omega (arith, base_height-Bool t.place)
base_least (g.int t at) = omega (arith, base_height-Int t.place)
base_least (g.int32 t at) = omega (arith, base_height-Int32 t.place)
base_least (g.int64 t at) = omega (arith, base_height-Int64 t.place)
base_least (g.wrap a t o c inner at ato le sp atc) = omega (arith, base_height-Wrap t.place a)
base_least (g.clamp a t o c inner at ato le sp atc) = omega (arith, base_height-Clamp t.place a)

sizes_no_colons : {xs : List Expr} {u : List Token} → SpellsSizes xs u → (r : List Token) → sees colons r ≡ false → sees colons (u ++ r) ≡ false
unfolding same_sign
sizes_no_colons g.no_sizes r never = never
sizes_no_colons (g.size a xs o c inner others ato sa atc ss) r never = no_other s.DoubleColon s.LeftBracket o _ ato refl

base_some : (x : Base) (xs : List Expr) {u : List Token} → SpellsBase x u → 1 ≤ sized x xs
base_some x xs sp = let h = sized-is x xs in let one = base_least sp in omega arith

pub type_some : {ty : TypeExpr} {u : List Token} → SpellsType ty u → 1 ≤ type_height ty
type_some (g.base x xs front others sb ss) = base_some x xs sb
type_some (g.named q xs front others sq ss) = omega arith

type_by : (m : ℕ) {ty : TypeExpr} {u : List Token} → SpellsType ty u → (r : List Token) → type_height ty ≤ m + 1 → sees (is_sign s.LeftBracket) r ≡ false → sees colons r ≡ false
    → type_one (expr m) (binary m) (u ++ r) ≡ Ok (ty, r)
unfolding type_one see
type_by m (g.base x xs front others sb ss) r low no_bracket no_colons =
    let regroup : (front ++ others) ++ r ≡ front ++ (others ++ r) = append_assoc front others r in
    rw (regroup, base_begins sb (others ++ r), sized_base_read x xs front others r (read_base sb) (read_sizes ss) m low no_bracket) refl
type_by m (g.named q xs front others sq ss) r low no_bracket no_colons =
    let regroup : (front ++ others) ++ r ≡ front ++ (others ++ r) = append_assoc front others r in
    let within : sizes_height xs ≤ m + 1 = omega arith in
    let after : sees colons (others ++ r) ≡ false = sizes_no_colons ss r no_colons in
    rw (regroup, path_begins sq (others ++ r), path_read sq (others ++ r) after, (read_sizes ss).read m r within no_bracket) refl

type_at : (n m : ℕ) (ts : List Token) → n ≡ m + 1 → type_expr n ts ≡ type_one (expr m) (binary m) ts
unfolding type_expr
type_at zero m ts is = absurd (omega arith)
type_at (suc n) m ts is = let same : n ≡ m = omega arith in rw same refl

-- what is spelled is read, if neither a size nor a further name follows
pub type_read : {ty : TypeExpr} {u : List Token} → SpellsType ty u → (n : ℕ) (r : List Token) → type_height ty ≤ n → sees (is_sign s.LeftBracket) r ≡ false → sees colons r ≡ false
    → type_expr n (u ++ r) ≡ Ok (ty, r)
type_read sp n r low no_bracket no_colons =
    let some = type_some sp in
    type_at n (n - 1) _ (omega arith) ∙ type_by (n - 1) sp r (omega arith) no_bracket no_colons

pub record TypeGiven (room : ℕ) (ts : List Token) (ty : TypeExpr) (r : List Token) : Type 0 where
  pub used : List Token
  pub parts : ts ≡ used ++ r
  pub spelled : SpellsType ty used
  pub low : type_height ty ≤ room
  pub ended : sees (is_sign s.LeftBracket) r ≡ false

type_by_sound : (n : ℕ) (ts : List Token) (ty : TypeExpr) (r : List Token) → type_one (expr n) (binary n) ts ≡ answer ty r → TypeGiven (suc n) ts ty r
unfolding type_one see
type_by_sound n ts ty r h =
    elim (if_ok (sees begins_base ts) _ _ ts _ h) [
      | inl x ↦
          let z = bind_ok (sized_base (expr n) (binary n) ts) (λ b. pure (y.Base b.0 b.1)) ty r x.1 in
          let one = sized_base_sound n (expr_sound n) (binary_sound n) ts z.0 z.1 z.2 in
          given (λ a l. TypeGiven (suc n) ts a l) (y.Base z.0.0 z.0.1) ty z.1 r z.3 (record {
            used = one.front ++ one.middle;
            parts = one.parts ∙ sym (append_assoc one.front one.middle z.1);
            spelled = g.base z.0.0 z.0.1 one.front one.middle one.spelled one.sizes;
            low = one.low;
            ended = one.ended;
          })
      | inr x ↦
          let z = bind_ok (path ts) (λ q. sizes (expr n) (binary n) >>= λ all. pure (y.Named q all)) ty r x.1 in
          let d = bind_ok (sizes (expr n) (binary n) z.1) (λ all. pure (y.Named z.0 all)) ty r z.3 in
          let one = path_sound ts z.0 z.1 z.2 in
          let two = sizes_sound n (expr_sound n) (binary_sound n) z.1 d.0 d.1 d.2 in
          given (λ a l. TypeGiven (suc n) ts a l) (y.Named z.0 d.0) ty d.1 r d.3 (record {
            used = one.used ++ two.used;
            parts = one.parts ∙ after_same one.used _ _ two.parts ∙ sym (append_assoc one.used two.used d.1);
            spelled = g.named z.0 d.0 one.used two.used one.spelled two.spelled;
            low = omega (arith, two.low);
            ended = two.ended;
          })
    ]

-- what is read is spelled
pub type_sound : (n : ℕ) (ts : List Token) (ty : TypeExpr) (r : List Token) → type_expr n ts ≡ answer ty r → TypeGiven n ts ty r
unfolding type_expr
type_sound zero ts ty r h = absurd cc
type_sound (suc n) ts ty r h = type_by_sound n ts ty r h

-- ---- arguments

-- an expression, from the atom at its front on
abbrev from_base : ℕ → Base × List Expr → Parser Expr
from_base n ty = construct_of (expr n) (binary n) (suc n) ty >>= steps (expr n) (binary n) (suc n) >>= climb (expr n) (binary n) (suc n) 1 >>= tail (expr n) (binary n) (suc n)

outcomes : (n : ℕ) (o : Outcome (Base × List Expr))
    → and_then (and_then (and_then (and_then o (construct_of (expr n) (binary n) (suc n))) (steps (expr n) (binary n) (suc n))) (climb (expr n) (binary n) (suc n) 1)) (tail (expr n) (binary n) (suc n))
    ≡ and_then o (from_base n)
outcomes n (Ok q) = refl
outcomes n (Err q) = refl

no_unary : (kind : TokenKind) → begins_base kind ≡ true → unary_of kind ≡ None
no_unary (k.Reserved x) is = refl
no_unary (k.Word x) is = absurd cc
no_unary (k.Number x z) is = absurd cc
no_unary (k.Text x) is = absurd cc
no_unary (k.Sign x) is = absurd cc

atom_based : (n : ℕ) (t : Token) (ts : List Token) (kind : TokenKind) → t.kind ≡ kind → begins_base kind ≡ true → atom (expr n) (binary n) (suc n) (t ∷ ts) ≡ construct (expr n) (binary n) (suc n) (t ∷ ts)
atom_based n t ts (k.Reserved w.Bool) is base = atom_is n (suc n) t ts (k.Reserved w.Bool) is
atom_based n t ts (k.Reserved w.Int) is base = atom_is n (suc n) t ts (k.Reserved w.Int) is
atom_based n t ts (k.Reserved w.Int32) is base = atom_is n (suc n) t ts (k.Reserved w.Int32) is
atom_based n t ts (k.Reserved w.Int64) is base = atom_is n (suc n) t ts (k.Reserved w.Int64) is
atom_based n t ts (k.Reserved w.Wrap) is base = atom_is n (suc n) t ts (k.Reserved w.Wrap) is
atom_based n t ts (k.Reserved w.Clamp) is base = atom_is n (suc n) t ts (k.Reserved w.Clamp) is
atom_based n t ts _ is base = absurd cc

expr_based : (n : ℕ) (t : Token) (ts : List Token) → begins_base t.kind ≡ true → expr (suc n) (t ∷ ts) ≡ and_then (sized_base (expr n) (binary n) (t ∷ ts)) (from_base n)
unfolding expr operation post construct
expr_based n t ts is = rw (operand_is n (suc n) t ts None (no_unary t.kind is), atom_based n t ts t.kind refl is) (outcomes n (sized_base (expr n) (binary n) (t ∷ ts)))

-- without values after it a base type is no expression
no_values : (n : ℕ) (x : Bool) (ty : Base × List Expr) (ts : List Token) → sees (is_sign s.LeftParenthesis) ts ≡ false
    → cond x (λ l. Err l) (e.Construct ty.0 ty.1 <$> args (expr n) (binary n)) ts ≡ Err ts
unfolding args expect
no_values n true ty ts never = refl
no_values n false ty ts never = rw never refl

called : (n : ℕ) (ty : Base × List Expr) (ts : List Token) (a : Expr) (r : List Token) (x : Bool) → sees (is_sign s.LeftParenthesis) ts ≡ x → from_base n ty ts ≡ Ok (a, r)
    → value_if (expr n) (binary n) (suc n) ty x ts ≡ Ok (v.Value a, r)
called n ty ts a r true is h = rw h refl
called n ty ts a r false is h =
    let refuses : construct_of (expr n) (binary n) (suc n) ty ts ≡ Err ts = no_values n (nat_le (suc n) (sized ty.0 ty.1)) ty ts is in
    let refused : from_base n ty ts ≡ Err ts = rw refuses refl in
    absurd cc

arg_by_outcome : (n : ℕ) (ts : List Token) (a : Expr) (r : List Token) (o : Outcome (Base × List Expr)) → sized_base (expr n) (binary n) ts ≡ o → and_then o (from_base n) ≡ Ok (a, r)
    → base_arg (expr n) (binary n) (suc n) ts ≡ Ok (v.Value a, r)
unfolding base_arg see
arg_by_outcome n ts a r (Err q) is h = absurd cc
arg_by_outcome n ts a r (Ok q) is h = rw is (called n q.0 q.1 a r (sees (is_sign s.LeftParenthesis) q.1) refl h)

arg_based : (n : ℕ) (t : Token) (ts : List Token) (a : Expr) (r : List Token) → begins_base t.kind ≡ true → expr (suc n) (t ∷ ts) ≡ Ok (a, r) → base_arg (expr n) (binary n) (suc n) (t ∷ ts) ≡ Ok (v.Value a, r)
arg_based n t ts a r is h = arg_by_outcome n (t ∷ ts) a r (sized_base (expr n) (binary n) (t ∷ ts)) refl (sym (expr_based n t ts is) ∙ h)

arg_value_by : (n : ℕ) (ts : List Token) (a : Expr) (r : List Token) (x : Bool) → sees begins_base ts ≡ x → expr (suc n) ts ≡ Ok (a, r) → arg_if (expr n) (binary n) (suc n) x ts ≡ Ok (v.Value a, r)
unfolding expr
arg_value_by n ts a r false is h = rw h refl
arg_value_by n ts a r true is h =
    let t = sees_ok begins_base ts is in
    ap (base_arg (expr n) (binary n) (suc n)) t.2 ∙ arg_based n t.0 t.1 a r t.3 (ap (expr (suc n)) (sym t.2) ∙ h)

expr_zero : (ts : List Token) → expr 0 ts ≡ Err ts
unfolding expr
expr_zero ts = refl

-- an expression is read as an argument
arg_value : (n : ℕ) (ts : List Token) (a : Expr) (r : List Token) → expr n ts ≡ Ok (a, r) → arg n ts ≡ Ok (v.Value a, r)
unfolding arg arg_one see
arg_value zero ts a r h = absurd (let none = expr_zero ts in cc)
arg_value (suc n) ts a r h = arg_value_by n ts a r (sees begins_base ts) refl h

arg_at : (n m : ℕ) (ts : List Token) → n ≡ m + 1 → arg n ts ≡ arg_one (expr m) (binary m) (m + 1) ts
unfolding arg
arg_at zero m ts is = absurd (omega arith)
arg_at (suc n) m ts is = let same : n ≡ m = omega arith in let more : m + 1 ≡ suc m = omega arith in rw (same, more) refl

-- what follows an argument continues neither an expression nor a type
pub record ArgEnds (r : List Token) : Type 0 where
  pub no_values : sees (is_sign s.LeftParenthesis) r ≡ false
  pub no_size : sees (is_sign s.LeftBracket) r ≡ false
  pub closed : (a : Expr) → Closed a r

-- what is spelled is read
pub arg_read : {x : Arg} {u : List Token} → SpellsArg x u → (n : ℕ) (r : List Token) → arg_height x ≤ n → ArgEnds r → arg n (u ++ r) ≡ Ok (x, r)
unfolding arg_one base_arg see
arg_read (g.base x xs front others sb ss) n r low ends =
    let some = base_some x xs sb in
    let regroup : (front ++ others) ++ r ≡ front ++ (others ++ r) = append_assoc front others r in
    let within : sized x xs ≤ (n - 1) + 1 = omega arith in
    arg_at n (n - 1) _ (omega arith)
    ∙ rw (regroup, base_begins sb (others ++ r), sized_base_read x xs front others r (read_base sb) (read_sizes ss) (n - 1) within ends.no_size, ends.no_values) refl
arg_read (g.value a u sa) n r low ends = arg_value n (u ++ r) a r ((read sa).whole n r low (ends.closed a))

pub record ArgGiven (room : ℕ) (ts : List Token) (x : Arg) (r : List Token) : Type 0 where
  pub used : List Token
  pub parts : ts ≡ used ++ r
  pub spelled : SpellsArg x used
  pub low : arg_height x ≤ room

arg_sentence : (n : ℕ) (ts : List Token) (a : Expr) (r : List Token) → Sentence n ts a r → ArgGiven n ts (v.Value a) r
arg_sentence n ts a r x = record { used = x.gives.used; parts = x.gives.parts; spelled = g.value a x.gives.used x.gives.spelled; low = x.gives.low }

from_base_sound : (n : ℕ) (start : List Token) (ty : Base × List Expr) (ts : List Token) (a : Expr) (r : List Token) → SizedGiven (suc n) start ty ts → from_base n ty ts ≡ answer a r → Sentence (suc n) start a r
from_base_sound n start ty ts a r so_far h =
    let x = bind_ok ((construct_of (expr n) (binary n) (suc n) ty >>= steps (expr n) (binary n) (suc n) >>= climb (expr n) (binary n) (suc n) 1) ts) (tail (expr n) (binary n) (suc n)) a r h in
    let z = bind_ok ((construct_of (expr n) (binary n) (suc n) ty >>= steps (expr n) (binary n) (suc n)) ts) (climb (expr n) (binary n) (suc n) 1) x.0 x.1 x.2 in
    let d = bind_ok (construct_of (expr n) (binary n) (suc n) ty ts) (steps (expr n) (binary n) (suc n)) z.0 z.1 z.2 in
    let one = construct_by n (expr_sound n) (binary_sound n) start ty ts d.0 d.1 so_far d.2 in
    let two = steps_sound n (expr_sound n) (binary_sound n) start d.1 d.0 z.0 z.1 one d.3 in
    let part : Part unary_level (suc n) start z.0 z.1 = record {
      gives = record { used = two.gives.used; parts = two.gives.parts; spelled = two.gives.spelled; tight = omega (arith, two.gives.tight); low = two.gives.low };
      settled = two.settled;
    } in
    let three = climb_sound n (expr_sound n) (binary_sound n) 1 (lit≤ tt) (lit≤ tt) start z.1 z.0 x.0 x.1 part z.3 in
    tail_sound n (expr_sound n) (binary_sound n) start x.1 x.0 a r three x.3

value_sound : (n : ℕ) (start : List Token) (ty : Base × List Expr) (ts : List Token) (x : Arg) (r : List Token) (b : Bool) → SizedGiven (suc n) start ty ts → value_if (expr n) (binary n) (suc n) ty b ts ≡ answer x r
    → ArgGiven (suc n) start x r
value_sound n start ty ts x r b so_far h =
    elim (if_ok b _ _ ts _ h) [
      | inl z ↦
          let d = bind_ok (from_base n ty ts) (λ a. pure (v.Value a)) x r z.1 in
          given (λ a l. ArgGiven (suc n) start a l) (v.Value d.0) x d.1 r d.3 (arg_sentence (suc n) start d.0 d.1 (from_base_sound n start ty ts d.0 d.1 so_far d.2))
      | inr z ↦ given (λ a l. ArgGiven (suc n) start a l) (v.Type ty.0 ty.1) x ts r z.1 (record {
        used = so_far.front ++ so_far.middle;
        parts = so_far.parts ∙ sym (append_assoc so_far.front so_far.middle ts);
        spelled = g.base ty.0 ty.1 so_far.front so_far.middle so_far.spelled so_far.sizes;
        low = so_far.low;
      })
    ]

base_arg_sound : (n : ℕ) (ts : List Token) (x : Arg) (r : List Token) → base_arg (expr n) (binary n) (suc n) ts ≡ answer x r → ArgGiven (suc n) ts x r
unfolding base_arg see
base_arg_sound n ts x r h =
    let z = bind_ok (sized_base (expr n) (binary n) ts) (λ ty. see (is_sign s.LeftParenthesis) >>= value_if (expr n) (binary n) (suc n) ty) x r h in
    value_sound n ts z.0 z.1 x r (sees (is_sign s.LeftParenthesis) z.1) (sized_base_sound n (expr_sound n) (binary_sound n) ts z.0 z.1 z.2) z.3

arg_by_sound : (n : ℕ) (ts : List Token) (x : Arg) (r : List Token) → arg_one (expr n) (binary n) (suc n) ts ≡ answer x r → ArgGiven (suc n) ts x r
unfolding arg_one see expr
arg_by_sound n ts x r h =
    elim (if_ok (sees begins_base ts) _ _ ts _ h) [
      | inl z ↦ base_arg_sound n ts x r z.1
      | inr z ↦
          let d = bind_ok (expr (suc n) ts) (λ a. pure (v.Value a)) x r z.1 in
          given (λ a l. ArgGiven (suc n) ts a l) (v.Value d.0) x d.1 r d.3 (arg_sentence (suc n) ts d.0 d.1 (expr_sound (suc n) ts d.0 d.1 d.2))
    ]

-- what is read is spelled
pub arg_sound : (n : ℕ) (ts : List Token) (x : Arg) (r : List Token) → arg n ts ≡ answer x r → ArgGiven n ts x r
unfolding arg
arg_sound zero ts x r h = absurd cc
arg_sound (suc n) ts x r h = arg_by_sound n ts x r h
