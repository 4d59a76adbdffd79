-- No part of the reading looks past the token after what it reads.
use Rattle.std.proofs.Common.{◌≡◌, ℕ, zero, suc, ◌+◌, ◌<◌, Bool, List, [], ◌∷◌, length, Option, Some, None, refl, ap, inl, inr, arith}
use Rattle.std.specs.Prelude.{nat_lt, nat_le}
use Rattle.cm_base.specs.declared.place.Place.{Place}
use Rattle.cm_tree.specs.declared.token.Token.{Token}
use Rattle.cm_tree.specs.declared.token.TokenKind.{TokenKind}
use Rattle.cm_tree.specs.declared.token.TokenKind.TheVariants as k
use Rattle.cm_tree.specs.declared.sign.Sign.TheVariants as s
use Rattle.cm_tree.specs.declared.reserved.Reserved.TheVariants as w
use Rattle.cm_tree.specs.declared.operator.Unary.{Unary}
use Rattle.cm_tree.specs.declared.operator.Binary.{Binary}
use Rattle.cm_tree.specs.declared.path.Path.{Path}
use Rattle.cm_tree.specs.declared.expr.Expr.{Expr}
use Rattle.cm_tree.specs.declared.expr.Expr.TheVariants as e
use Rattle.cm_tree.specs.declared.expr.Base.{Base}
use Rattle.cm_tree.specs.Heights.{height, sized}
use Rattle.cm_tree.specs.Levels.{binds, place, sum_level, unary_level}
use Rattle.token_reader.specs.Parsers.{Parser, ◌>>=◌, ◌<$>◌, pure, skip, see, sees, first, is_sign, more, done}
use Rattle.token_reader.specs.Local.{Local, Takes}
use Rattle.token_reader.proofs.Loops.{Moves}
use Rattle.token_reader.proofs.Inverses.{answer, bind_ok, if_ok, ok_value, ok_rest, skip_less}
use Rattle.token_reader.proofs.Locality.{local_pure, local_refuse, local_first, local_look, local_skip, local_see, local_expect, local_if, local_bind, local_repeat, local_name, local_while, local_separated, shrinks, takes_bind, takes_expect, takes_name}
use Rattle.cm_parse_expr.specs.Reading.{operator_at, operator, see_operator, begins_base, colons, further_name, path, again, bracketed, sizes, args, limit, base_by, base_at, base, sized_base, construct_of, construct, call_if, named, paren, atom_by, atom_at, atom, field, index, index_if, field_if, step, steps, post, operand_by, operand_at, operand, turn_by, turn, climb, operation, choice, tail, type_one, value_if, base_arg, arg_one, binary, expr, type_expr, arg}

pub local_see_operator : Local see_operator
unfolding see_operator operator
local_see_operator = local_first operator_at

pub local_further_name : Local further_name
unfolding further_name
local_further_name = local_bind (local_expect colons) (λ _. local_bind local_name (λ found. local_pure _))

pub takes_further_name : Takes further_name
unfolding further_name
takes_further_name = takes_bind (takes_expect colons) (λ _. local_bind local_name (λ found. local_pure _))

pub local_path : Local path
unfolding path
local_path = local_bind local_name (λ found. local_bind (local_while colons further_name local_further_name takes_further_name (found.1 ∷ [])) (λ names. local_pure _))

pub takes_path : Takes path
unfolding path
takes_path = takes_bind takes_name (λ found. local_bind (local_while colons further_name local_further_name takes_further_name (found.1 ∷ [])) (λ names. local_pure _))

module _ (expr : Parser Expr) (binary : ℕ → Parser Expr) (le : Local expr) (lb : (n : ℕ) → Local (binary n)) where
  pub local_bracketed : Local (bracketed expr binary)
  unfolding bracketed
  local_bracketed = local_bind (local_expect (is_sign s.LeftBracket)) (λ _. local_bind le (λ found. local_bind (local_expect (is_sign s.RightBracket)) (λ _. local_pure _)))

  pub takes_bracketed : Takes (bracketed expr binary)
  unfolding bracketed
  takes_bracketed = takes_bind (takes_expect (is_sign s.LeftBracket)) (λ _. local_bind le (λ found. local_bind (local_expect (is_sign s.RightBracket)) (λ _. local_pure _)))

  pub local_sizes : Local (sizes expr binary)
  unfolding sizes
  local_sizes = local_while (is_sign s.LeftBracket) (bracketed expr binary) local_bracketed takes_bracketed []

  pub local_args : Local (args expr binary)
  unfolding args
  local_args =
      local_bind (local_expect (is_sign s.LeftParenthesis)) (λ _. local_bind (local_see (is_sign s.RightParenthesis)) (λ is_empty.
      local_bind (local_if is_empty (local_pure _) (local_separated (is_sign s.Comma) expr le)) (λ found. local_bind (local_expect (is_sign s.RightParenthesis)) (λ _. local_pure _))))

  pub local_limit : Local (limit expr binary)
  unfolding limit
  local_limit = local_bind (local_expect (is_sign s.Less)) (λ _. local_bind (lb sum_level) (λ found. local_bind (local_expect (is_sign s.Greater)) (λ _. local_pure _)))

  local_base_by : (p : Place) (kind : TokenKind) → Local (base_by expr binary p kind)
  local_base_by p (k.Reserved w.Bool) = local_bind local_skip (λ _. local_pure _)
  local_base_by p (k.Reserved w.Int) = local_bind local_skip (λ _. local_pure _)
  local_base_by p (k.Reserved w.Int32) = local_bind local_skip (λ _. local_pure _)
  local_base_by p (k.Reserved w.Int64) = local_bind local_skip (λ _. local_pure _)
  local_base_by p (k.Reserved w.Wrap) = local_bind local_skip (λ _. local_bind local_limit (λ a. local_pure _))
  local_base_by p (k.Reserved w.Clamp) = local_bind local_skip (λ _. local_bind local_limit (λ a. local_pure _))
  local_base_by p _ = local_refuse

  local_base_at : (t : Option Token) → Local (base_at expr binary t)
  local_base_at None = local_refuse
  local_base_at (Some t) = local_base_by t.place t.kind

  pub local_base : Local (base expr binary)
  unfolding base
  local_base = local_bind local_look local_base_at

  pub local_sized_base : Local (sized_base expr binary)
  unfolding sized_base
  local_sized_base = local_bind local_base (λ found. local_bind local_sizes (λ all. local_pure _))

  local_construct_of : (room : ℕ) (ty : Base × List Expr) → Local (construct_of expr binary room ty)
  local_construct_of room ty = local_if (nat_le room (sized ty.0 ty.1)) local_refuse (local_bind local_args (λ xs. local_pure _))

  pub local_construct : (room : ℕ) → Local (construct expr binary room)
  unfolding construct
  local_construct room = local_bind local_sized_base (local_construct_of room)

  local_call_if : (room : ℕ) (q : Path) (is_call : Bool) → Local (call_if expr binary room q is_call)
  local_call_if room q is_call = local_if is_call (local_if (nat_le room 1) local_refuse (local_bind local_args (λ xs. local_pure _))) (local_pure _)

  pub local_named : (room : ℕ) → Local (named expr binary room)
  unfolding named
  local_named room = local_bind local_path (λ q. local_bind (local_see (is_sign s.LeftParenthesis)) (local_call_if room q))

  pub local_paren : (p : Place) → Local (paren expr binary p)
  unfolding paren
  local_paren p = local_bind le (λ inner. local_bind (local_expect (is_sign s.RightParenthesis)) (λ _. local_pure _))

  local_atom_by : (room : ℕ) (p : Place) (kind : TokenKind) → Local (atom_by expr binary room p kind)
  local_atom_by room p (k.Number v wide) = local_bind local_skip (λ _. local_pure _)
  local_atom_by room p (k.Reserved w.True) = local_bind local_skip (λ _. local_pure _)
  local_atom_by room p (k.Reserved w.False) = local_bind local_skip (λ _. local_pure _)
  local_atom_by room p (k.Reserved w.Bool) = local_construct room
  local_atom_by room p (k.Reserved w.Int) = local_construct room
  local_atom_by room p (k.Reserved w.Int32) = local_construct room
  local_atom_by room p (k.Reserved w.Int64) = local_construct room
  local_atom_by room p (k.Reserved w.Wrap) = local_construct room
  local_atom_by room p (k.Reserved w.Clamp) = local_construct room
  local_atom_by room p (k.Word text) = local_named room
  local_atom_by room p (k.Sign s.LeftParenthesis) = local_bind local_skip (λ _. local_paren p)
  local_atom_by room p _ = local_refuse

  local_atom_at : (room : ℕ) (t : Option Token) → Local (atom_at expr binary room t)
  local_atom_at room None = local_refuse
  local_atom_at room (Some t) = local_atom_by room t.place t.kind

  pub local_atom : (room : ℕ) → Local (atom expr binary room)
  unfolding atom
  local_atom room = local_bind local_look (local_atom_at room)

  pub local_field : (left : Expr) → Local (field expr binary left)
  unfolding field
  local_field left = local_bind (local_expect (is_sign s.Dot)) (λ _. local_bind local_name (λ found. local_pure _))

  pub takes_field : (left : Expr) → Takes (field expr binary left)
  unfolding field
  takes_field left = takes_bind (takes_expect (is_sign s.Dot)) (λ _. local_bind local_name (λ found. local_pure _))

  pub local_index : (left : Expr) → Local (index expr binary left)
  unfolding index
  local_index left = local_bind local_bracketed (λ i. local_pure _)

  pub takes_index : (left : Expr) → Takes (index expr binary left)
  unfolding index
  takes_index left = takes_bind takes_bracketed (λ i. local_pure _)

  local_index_if : (room : ℕ) (left : Expr) (b : Bool) → Local (index_if expr binary room left b)
  local_index_if room left b = local_if b (local_if (nat_le room (height left)) local_refuse (local_bind (local_index left) (λ a. local_pure _))) (local_pure _)

  local_field_if : (room : ℕ) (left : Expr) (b : Bool) → Local (field_if expr binary room left b)
  local_field_if room left b =
      local_if b (local_if (nat_le room (height left)) local_refuse (local_bind (local_field left) (λ a. local_pure _))) (local_bind (local_see (is_sign s.LeftBracket)) (local_index_if room left))

  pub local_step : (room : ℕ) (left : Expr) → Local (step expr binary room left)
  unfolding step
  local_step room left = local_bind (local_see (is_sign s.Dot)) (local_field_if room left)

  stepped : (p : Parser Expr) → Takes p → (ts ts' : List Token) (left' : Expr) → (again <$> p) ts ≡ answer (more left') ts' → length ts' < length ts
  stepped p takes ts ts' left' is =
      let a = bind_ok (p ts) (λ x. pure (again x)) (more left') ts' is in
      omega (arith, takes.some ts a.0 a.1 a.2, ap length (ok_rest (again a.0) (more left') a.1 ts' a.3))

  index_moves : (room : ℕ) (left left' : Expr) (b : Bool) (ts ts' : List Token) → index_if expr binary room left b ts ≡ answer (more left') ts' → length ts' < length ts
  index_moves room left left' b ts ts' is =
      elim (if_ok b _ _ ts _ is) [
        | inl a ↦ elim (if_ok (nat_le room (height left)) _ _ ts _ a.1) [
          | inl c ↦ absurd (let none = c.1 in cc)
          | inr c ↦ stepped (index expr binary left) (takes_index left) ts ts' left' c.1
        ]
        | inr a ↦ absurd (let none : done left ≡ more left' = ok_value _ _ _ _ a.1 in cc)
      ]

  field_moves : (room : ℕ) (left left' : Expr) (b : Bool) (ts ts' : List Token) → field_if expr binary room left b ts ≡ answer (more left') ts' → length ts' < length ts
  unfolding see
  field_moves room left left' b ts ts' is =
      elim (if_ok b _ _ ts _ is) [
        | inl a ↦ elim (if_ok (nat_le room (height left)) _ _ ts _ a.1) [
          | inl c ↦ absurd (let none = c.1 in cc)
          | inr c ↦ stepped (field expr binary left) (takes_field left) ts ts' left' c.1
        ]
        | inr a ↦ index_moves room left left' (sees (is_sign s.LeftBracket) ts) ts ts' a.1
      ]

  pub moves_step : (room : ℕ) → Moves (step expr binary room)
  unfolding step see
  moves_step room = record { less = λ left left' ts ts' is. field_moves room left left' (sees (is_sign s.Dot) ts) ts ts' is }

  pub local_steps : (room : ℕ) (left : Expr) → Local (steps expr binary room left)
  unfolding steps
  local_steps room left = local_repeat (step expr binary room) (moves_step room) (local_step room) left

  pub local_post : (room : ℕ) → Local (post expr binary room)
  unfolding post
  local_post room = local_bind (local_atom room) (local_steps room)

  local_operand_by : (room : ℕ) (p : Place) (x : Option Unary) → Local (operand_by expr binary room p x)
  local_operand_by room p None = local_post room
  local_operand_by room p (Some x) = local_bind local_skip (λ _. local_bind (lb unary_level) (λ a. local_pure _))

  local_operand_at : (room : ℕ) (t : Option Token) → Local (operand_at expr binary room t)
  local_operand_at room None = local_refuse
  local_operand_at room (Some t) = local_operand_by room t.place _

  pub local_operand : (room : ℕ) → Local (operand expr binary room)
  unfolding operand
  local_operand room = local_bind local_look (local_operand_at room)

  local_turn_by : (room least : ℕ) (left : Expr) (x : Option Binary) → Local (turn_by expr binary room least left x)
  local_turn_by room least left None = local_pure _
  local_turn_by room least left (Some x) =
      local_if (nat_lt (binds x) least) (local_pure _) (local_if (nat_le room (height left)) local_refuse
      (local_bind local_skip (λ _. local_bind (lb (binds x + 1)) (λ right. local_pure _))))

  pub local_turn : (room least : ℕ) (left : Expr) → Local (turn expr binary room least left)
  unfolding turn
  local_turn room least left = local_bind local_see_operator (local_turn_by room least left)

  turn_moves_some : (room least : ℕ) (left left' : Expr) (x : Binary) (ts ts' : List Token) (t : Option Token) → first ts ≡ t → operator_at t ≡ Some x
      → turn_by expr binary room least left (Some x) ts ≡ answer (more left') ts' → length ts' < length ts
  turn_moves_some room least left left' x ts ts' None head some is = absurd cc
  turn_moves_some room least left left' x ts ts' (Some t) head some is =
      elim (if_ok (nat_lt (binds x) least) _ _ ts _ is) [
        | inl a ↦ absurd (let none : done left ≡ more left' = ok_value _ _ _ _ a.1 in cc)
        | inr a ↦ elim (if_ok (nat_le room (height left)) _ _ ts _ a.1) [
          | inl c ↦ absurd (let none = c.1 in cc)
          | inr c ↦
              let d = bind_ok (skip ts) (λ _. binary (binds x + 1) >>= λ right. pure (more (e.Binary (place left) x left right))) (more left') ts' c.1 in
              let f = bind_ok (binary (binds x + 1) d.1) (λ right. pure (more (e.Binary (place left) x left right))) (more left') ts' d.3 in
              let same : f.1 ≡ ts' = ok_rest _ _ _ _ f.3 in
              omega (arith, skip_less ts t d.0 d.1 head d.2, shrinks (binary (binds x + 1)) (lb (binds x + 1)) d.1 f.0 f.1 f.2, ap length same)
        ]
      ]

  turn_moves : (room least : ℕ) (left left' : Expr) (ts ts' : List Token) (x : Option Binary) → operator ts ≡ x → turn_by expr binary room least left x ts ≡ answer (more left') ts' → length ts' < length ts
  unfolding operator
  turn_moves room least left left' ts ts' None some is = absurd (let none : done left ≡ more left' = ok_value _ _ _ _ is in cc)
  turn_moves room least left left' ts ts' (Some x) some is = turn_moves_some room least left left' x ts ts' (first ts) refl some is

  pub moves_turn : (room least : ℕ) → Moves (turn expr binary room least)
  unfolding turn see_operator
  moves_turn room least = record { less = λ left left' ts ts' is. turn_moves room least left left' ts ts' (operator ts) refl is }

  pub local_climb : (room least : ℕ) (left : Expr) → Local (climb expr binary room least left)
  unfolding climb
  local_climb room least left = local_repeat (turn expr binary room least) (moves_turn room least) (local_turn room least) left

  pub local_operation : (room least : ℕ) → Local (operation expr binary room least)
  unfolding operation
  local_operation room least = local_bind (local_operand room) (local_climb room least)

  local_choice : (test : Expr) → Local (choice expr binary test)
  unfolding choice
  local_choice test =
      local_bind (local_expect (is_sign s.Question)) (λ _. local_bind le (λ left. local_bind (local_expect (is_sign s.Colon)) (λ _. local_bind le (λ right. local_pure _))))

  pub local_tail : (room : ℕ) (left : Expr) → Local (tail expr binary room left)
  unfolding tail
  local_tail room left = local_bind (local_see (is_sign s.Question)) (λ b. local_if b (local_if (nat_le room (height left)) local_refuse (local_choice left)) (local_pure _))

  local_type_one : Local (type_one expr binary)
  unfolding type_one
  local_type_one =
      local_bind (local_see begins_base) (λ b. local_if b (local_bind local_sized_base (λ ty. local_pure _)) (local_bind local_path (λ q. local_bind local_sizes (λ all. local_pure _))))

  local_value_if : (room : ℕ) (ty : Base × List Expr) (b : Bool) → Local (value_if expr binary room ty b)
  local_value_if room ty b =
      local_if b (local_bind (local_bind (local_bind (local_bind (local_construct_of room ty) (local_steps room)) (local_climb room 1)) (local_tail room)) (λ a. local_pure _)) (local_pure _)

  local_base_arg : (room : ℕ) → Local (base_arg expr binary room)
  unfolding base_arg
  local_base_arg room = local_bind local_sized_base (λ ty. local_bind (local_see (is_sign s.LeftParenthesis)) (local_value_if room ty))

  local_arg_one : (room : ℕ) → Local (arg_one expr binary room)
  unfolding arg_one
  local_arg_one room =
      local_bind (local_see begins_base) (λ b. local_if b (local_base_arg room) (local_bind (local_bind (local_operation room 1) (local_tail room)) (λ a. local_pure _)))

mutual
  unfolding binary expr

  pub local_binary : (n least : ℕ) → Local (binary n least)
  local_binary zero least = local_refuse
  local_binary (suc n) least = local_operation (expr n) (binary n) (local_expr n) (local_binary n) (suc n) least

  pub local_expr : (n : ℕ) → Local (expr n)
  local_expr zero = local_refuse
  local_expr (suc n) = local_bind (local_operation (expr n) (binary n) (local_expr n) (local_binary n) (suc n) 1) (local_tail (expr n) (binary n) (local_expr n) (local_binary n) (suc n))

pub local_type : (n : ℕ) → Local (type_expr n)
unfolding type_expr
local_type zero = local_refuse
local_type (suc n) = local_type_one (expr n) (binary n) (local_expr n) (local_binary n)

pub local_arg : (n : ℕ) → Local (arg n)
unfolding arg
local_arg zero = local_refuse
local_arg (suc n) = local_arg_one (expr n) (binary n) (local_expr n) (local_binary n) (suc n)
