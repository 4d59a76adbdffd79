-- No parser looks past the token after what it reads: one line for each.
use Rattle.std.proofs.Common.{◌≡◌, ℕ, zero, suc, ◌-◌, ◌<◌, Bool, List, [], ◌∷◌, length, Option, Some, None, ap, arith}
use Rattle.std.specs.Prelude.{nat_eq}
use Rattle.cm_base.specs.declared.place.Place.{Place}
use Rattle.cm_tree.specs.declared.token.Token.{Token}
use Rattle.cm_tree.specs.declared.token.TokenKind.{TokenKind}
use Rattle.cm_tree.specs.declared.token.TokenKind.TheVariants as k
use Rattle.cm_tree.specs.declared.sign.Sign.TheVariants as s
use Rattle.cm_tree.specs.declared.reserved.Reserved.{Reserved}
use Rattle.cm_tree.specs.declared.reserved.Reserved.TheVariants as w
use Rattle.cm_tree.specs.declared.path.Word.{Word}
use Rattle.cm_tree.specs.declared.path.Path.{Path}
use Rattle.cm_tree.specs.declared.expr.Expr.{Expr}
use Rattle.cm_tree.specs.declared.type_expr.TypeExpr.{TypeExpr}
use Rattle.cm_tree.specs.declared.operator.Assign.{Assign}
use Rattle.cm_tree.specs.declared.operator.Change.{Change}
use Rattle.cm_tree.specs.declared.simple.Target.{Target}
use Rattle.cm_tree.specs.declared.simple.Step.{Step}
use Rattle.cm_tree.specs.declared.stmt.Start.{Start}
use Rattle.cm_tree.specs.declared.stmt.Stmt.{Stmt}
use Rattle.cm_tree.specs.declared.stmt.Stmt.TheVariants as x
use Rattle.cm_tree.specs.declared.simple.Simple.{Simple}
use Rattle.cm_tree.specs.declared.simple.Simple.TheVariants as simple
use Rattle.token_reader.specs.Parsers.{Parser, ◌>>◌, pure, look, skip}
use Rattle.token_reader.specs.Lists.{name}
use Rattle.token_reader.specs.Local.{Local, Takes}
use Rattle.token_reader.proofs.Inverses.{answer, bind_ok, ok_rest}
use Rattle.token_reader.proofs.Locality.{local_pure, local_refuse, local_look, local_skip, local_see, local_expect, local_if, local_bind, local_name, local_text, local_optional, local_while, local_separated, takes_expect, takes_refuse, takes_bind, takes_then, takes_if, takes_name, takes_skip}
use Rattle.cm_parse_expr.specs.Reading.{binary, expr}
use Rattle.cm_parse_expr.proofs.Reach.{local_path, local_args, local_binary, local_expr, local_type}
use Rattle.file_grammar.proofs.Takes.{takes_path, takes_type}
use Rattle.file_grammar.specs.declared.begun.Begun.{Begun}
use Rattle.file_grammar.specs.declared.begun.Begun.TheVariants as begun
use Rattle.file_grammar.specs.Words
use Rattle.file_grammar.specs.Simples
use Rattle.file_grammar.specs.Stmts

-- ---- words

pub local_within : {A : Type 0} (n : ℕ) {p : Parser A} → Local p → Local (Words.within n p)
local_within n lp = local_if (nat_eq n 0) local_refuse lp

local_place_at : (t : Option Token) → Local (Words.place_at t)
local_place_at None = local_refuse
local_place_at (Some t) = local_pure _

pub local_here : Local Words.here
unfolding Words.here
local_here = local_bind local_look local_place_at

pub local_word : Local Words.word
unfolding Words.word
local_word = local_bind local_name (λ _. local_pure _)

pub takes_word : Takes Words.word
unfolding Words.word
takes_word = takes_bind takes_name (λ _. local_pure _)

pub local_bracket : (n : ℕ) → Local (Words.bracket n)
unfolding Words.bracket
local_bracket n = local_bind local_here (λ p. local_bind (local_bind (local_expect _) (λ _. local_expr (n - 1))) (λ e. local_bind (local_expect _) (λ _. local_pure _)))

pub takes_bracket : (n : ℕ) → Takes (Words.bracket n)
unfolding Words.bracket
takes_bracket n = takes_then local_here (λ p. takes_bind (takes_bind (takes_expect _) (λ _. local_expr (n - 1))) (λ e. local_bind (local_expect _) (λ _. local_pure _)))

pub local_condition : (n : ℕ) → Local (Words.condition n)
unfolding Words.condition
local_condition n = local_bind (local_bind (local_expect _) (λ _. local_expr n)) (λ e. local_bind (local_expect _) (λ _. local_pure _))

pub local_typed : (n : ℕ) → Local (Words.typed n)
unfolding Words.typed
local_typed n = local_bind (local_type n) (λ ty. local_bind local_word (λ w. local_pure _))

pub local_in_parentheses : {A : Type 0} {part : Parser A} → Local part → Local (Words.in_parentheses part)
unfolding Words.in_parentheses
local_in_parentheses {part = part} lp =
    local_bind (local_bind (local_expect _) (λ _. local_see _)) (λ b. local_if b (local_bind local_skip (λ _. local_pure _)) (local_bind (local_separated _ part lp) (λ xs. local_bind (local_expect _) (λ _. local_pure _))))

pub local_arguments : (n : ℕ) → Local (Words.arguments n)
local_arguments n = local_args (expr n) (binary n) (local_expr n) (local_binary n)

-- ---- declared names, targets

pub local_value : (n : ℕ) → Local (Simples.value n)
unfolding Simples.value
local_value n = local_bind (local_expect _) (λ _. local_expr n)

pub local_init : (n : ℕ) → Local (Simples.init n)
unfolding Simples.init
local_init n = local_bind local_word (λ w. local_bind (local_value n) (λ e. local_pure _))

pub local_inits : (n : ℕ) → Local (Simples.inits n)
unfolding Simples.inits
local_inits n = local_separated _ (Simples.init n) (local_init n)

pub local_var_of : (n : ℕ) (name : Word) → Local (Simples.var_of n name)
unfolding Simples.var_of
local_var_of n name = local_bind (local_optional _ (Simples.value n) (local_value n)) (λ e. local_pure _)

pub local_var : (n : ℕ) → Local (Simples.var n)
unfolding Simples.var
local_var n = local_bind local_word (local_var_of n)

pub local_next_var : (n : ℕ) → Local (Simples.next_var n)
unfolding Simples.next_var
local_next_var n = local_bind (local_expect _) (λ _. local_var n)

pub takes_next_var : (n : ℕ) → Takes (Simples.next_var n)
unfolding Simples.next_var
takes_next_var n = takes_bind (takes_expect _) (λ _. local_var n)

pub local_vars_of : (n : ℕ) (name : Word) → Local (Simples.vars_of n name)
unfolding Simples.vars_of Simples.more_vars
local_vars_of n name = local_bind (local_var_of n name) (λ v. local_while _ (Simples.next_var n) (local_next_var n) (takes_next_var n) _)

pub local_vars : (n : ℕ) → Local (Simples.vars n)
unfolding Simples.vars
local_vars n = local_bind local_word (local_vars_of n)

pub local_step : (n : ℕ) → Local (Simples.step_of n)
unfolding Simples.step_of
local_step n = local_bind (local_see _) (λ b. local_if b (local_bind (local_bind local_skip (λ _. local_word)) (λ w. local_pure _)) (local_bind (local_bracket n) (λ q. local_pure _)))

pub takes_step : (n : ℕ) → Takes (Simples.step_of n)
unfolding Simples.step_of
takes_step n = takes_then (local_see _) (λ b. takes_if b (takes_bind (takes_then local_skip (λ _. takes_word)) (λ w. local_pure _)) (takes_bind (takes_bracket n) (λ q. local_pure _)))

pub local_target_of : (n : ℕ) (name : Word) (steps : List Step) → Local (Simples.target_of n name steps)
unfolding Simples.target_of
local_target_of n name steps = local_bind (local_while _ (Simples.step_of n) (local_step n) (takes_step n) steps) (λ all. local_pure _)

pub local_target : (n : ℕ) → Local (Simples.target n)
unfolding Simples.target
local_target n = local_within n (local_bind local_word (λ name. local_target_of n name []))

local_target_at : (n : ℕ) (p : Place) (sizes : List (Place × Expr)) (one : Option (List ℕ)) → Local (Simples.target_at n p sizes one)
local_target_at n p sizes None = local_refuse
local_target_at n p sizes (Some t) = local_bind (local_target_of n _ _) (λ _. local_pure _)

local_type_or_target : (n : ℕ) (q : Path) (sizes : List (Place × Expr)) (b : Bool) → Local (Simples.type_or_target n q sizes b)
local_type_or_target n q sizes b = local_if b (local_pure _) (local_target_at n q.place sizes (Simples.single q.names))

pub local_after_indices : (n : ℕ) (q : Path) (sizes : List (Place × Expr)) → Local (Simples.after_indices n q sizes)
unfolding Simples.after_indices
local_after_indices n q sizes = local_bind (local_see _) (local_type_or_target n q sizes)

pub local_called : (n : ℕ) (q : Path) → Local (Simples.called n q)
unfolding Simples.called
local_called n q = local_within (n - 1) (local_bind (local_arguments (n - 1)) (λ args. local_pure _))

local_call_or_rest : (n : ℕ) (q : Path) (b : Bool) → Local (Simples.call_or_rest n q b)
local_call_or_rest n q b = local_if b (local_called n q) (local_bind (local_while _ (Words.bracket n) (local_bracket n) (takes_bracket n) []) (local_after_indices n q))

pub local_begun : (n : ℕ) → Local (Simples.begun_by_name n)
unfolding Simples.begun_by_name
local_begun n = local_within n (local_bind local_path (λ q. local_bind (local_see _) (local_call_or_rest n q)))

-- ---- simple statements

local_after_target : (n : ℕ) (t : Target) (kind : TokenKind) (op : Option Assign) (change : Option Change) → Local (Simples.after_target n t kind op change)
local_after_target n t kind (Some op) change = local_bind (local_bind local_skip (λ _. local_expr n)) (λ e. local_pure _)
local_after_target n t kind None (Some change) = local_bind local_skip (λ _. local_pure _)
local_after_target n t kind None None = local_refuse

local_after_target_at : (n : ℕ) (t : Target) (o : Option Token) → Local (Simples.after_target_at n t o)
local_after_target_at n t None = local_refuse
local_after_target_at n t (Some token) = local_after_target n t token.kind (Simples.assign_of token.kind) (Simples.change_of token.kind)

pub local_change_target : (n : ℕ) (t : Target) → Local (Simples.change_target n t)
unfolding Simples.change_target
local_change_target n t = local_bind local_look (local_after_target_at n t)

local_changed_by : (n : ℕ) (p : Place) (change : Option Change) → Local (Simples.changed_by n p change)
local_changed_by n p None = local_refuse
local_changed_by n p (Some change) = local_bind (local_bind local_skip (λ _. local_target n)) (λ t. local_pure _)

local_changed_at : (n : ℕ) (o : Option Token) → Local (Simples.changed_at n o)
local_changed_at n None = local_refuse
local_changed_at n (Some t) = local_changed_by n t.place (Simples.change_of t.kind)

pub local_before : (n : ℕ) → Local (Simples.before n)
unfolding Simples.before
local_before n = local_bind local_look (local_changed_at n)

local_simple_by : (n : ℕ) (b : Begun) → Local (Simples.simple_by n b)
local_simple_by n (begun.Type ty) = local_refuse
local_simple_by n (begun.Target t) = local_change_target n t
local_simple_by n (begun.Call q args) = local_pure _

pub local_simple : (n : ℕ) → Local (Simples.simple_stmt n)
unfolding Simples.simple_stmt
local_simple n = local_bind (local_see _) (λ b. local_if b (local_bind (local_begun n) (local_simple_by n)) (local_before n))

pub local_typed_local : (n : ℕ) (ty : TypeExpr) → Local (Simples.typed_local n ty)
unfolding Simples.typed_local
local_typed_local n ty = local_bind (local_vars n) (λ vs. local_pure _)

pub local_let : (n : ℕ) (p : Place) → Local (Simples.let_local n p)
unfolding Simples.let_local
local_let n p = local_bind (local_inits n) (λ xs. local_pure _)

pub local_var_local : (n : ℕ) (p : Place) → Local (Simples.var_local n p)
unfolding Simples.var_local
local_var_local n p = local_bind (local_inits n) (λ xs. local_pure _)

-- ---- statements

local_then_text : Local Stmts.then_text
local_then_text = local_bind (local_bind (local_expect _) (λ _. local_text)) (λ t. local_pure _)

pub local_assertion : (n : ℕ) (p : Place) → Local (Stmts.assertion n p)
unfolding Stmts.assertion
local_assertion n p = local_bind (local_bind (local_expect _) (λ _. local_expr n)) (λ e. local_bind (local_optional _ Stmts.then_text local_then_text) (λ t.
    local_bind (local_bind (local_expect _) (λ _. local_expect _)) (λ _. local_pure _)))

pub local_semicolon : {A : Type 0} (x : A) → Local (Stmts.semicolon x)
unfolding Stmts.semicolon
local_semicolon x = local_bind (local_expect _) (λ _. local_pure _)

pub local_value_up_to : (n : ℕ) → Local (Stmts.value_up_to n)
unfolding Stmts.value_up_to
local_value_up_to n = local_bind (local_see _) (λ b. local_if b (local_bind local_skip (λ _. local_pure _)) (local_bind (local_expr n) (λ e. local_bind (local_expect _) (λ _. local_pure _))))

local_write_if : (n : ℕ) (t : Target) (b : Bool) → Local (Stmts.write_if n t b)
local_write_if n t b = local_if b (local_bind (local_bind local_skip (λ _. local_expr n)) (λ e. local_semicolon _)) (local_bind (local_change_target n t) (λ a. local_semicolon _))

local_begun_stmt : (n : ℕ) (b : Begun) → Local (Stmts.begun_stmt n b)
local_begun_stmt n (begun.Type ty) = local_bind (local_typed_local n ty) (λ a. local_semicolon _)
local_begun_stmt n (begun.Target t) = local_bind (local_see _) (λ arrow. local_write_if n t (Stmts.may_write t arrow))
local_begun_stmt n (begun.Call q args) = local_semicolon _

pub local_named_stmt : (n : ℕ) → Local (Stmts.named_stmt n)
unfolding Stmts.named_stmt
local_named_stmt n = local_bind (local_begun n) (local_begun_stmt n)

pub local_based_stmt : (n : ℕ) → Local (Stmts.based_stmt n)
unfolding Stmts.based_stmt
local_based_stmt n = local_bind (local_type n) (λ ty. local_bind (local_typed_local n ty) (λ a. local_semicolon _))

pub local_third : (n : ℕ) → Local (Stmts.third n)
unfolding Stmts.third
local_third n = local_bind (local_see _) (λ b. local_if b (local_pure _) (local_bind (local_simple n) (λ a. local_pure _)))

module _ (n : ℕ) (stmt : Parser Stmt) (ls : Local stmt) (ts : Takes stmt) where
  local_for_parts : (p : Place) (b : Option Start) → Local (Stmts.for_parts n stmt p b)
  unfolding Stmts.for_parts
  local_for_parts p b = local_bind (local_bind (local_expect _) (λ _. local_value_up_to n)) (λ c. local_bind (local_third n) (λ a.
      local_bind (local_bind (local_expect _) (λ _. ls)) (λ d. local_pure _)))

  local_for_type : (p : Place) (ty : TypeExpr) → Local (Stmts.for_type n stmt p ty)
  unfolding Stmts.for_type
  local_for_type p ty = local_bind local_word (λ name. local_bind (local_see _) (λ b.
      local_if b (local_bind (local_bind local_skip (λ _. ls)) (λ a. local_pure _)) (local_bind (local_vars_of n name) (λ vs. local_for_parts p _))))

  local_for_begun : (p : Place) (b : Begun) → Local (Stmts.for_begun n stmt p b)
  local_for_begun p (begun.Type ty) = local_for_type p ty
  local_for_begun p (begun.Target t) = local_bind (local_change_target n t) (λ a. local_for_parts p _)
  local_for_begun p (begun.Call q args) = local_for_parts p _

  local_for_base : (p : Place) → Local (Stmts.for_base n stmt p)
  unfolding Stmts.for_base
  local_for_base p = local_bind (local_type n) (local_for_type p)

  local_for_name : (p : Place) → Local (Stmts.for_name n stmt p)
  unfolding Stmts.for_name
  local_for_name p = local_bind (local_begun n) (local_for_begun p)

  local_for_step : (p : Place) → Local (Stmts.for_step n stmt p)
  unfolding Stmts.for_step
  local_for_step p = local_bind (local_before n) (λ a. local_for_parts p _)

  local_for_let : (p q : Place) → Local (Stmts.for_let n stmt p q)
  unfolding Stmts.for_let
  local_for_let p q = local_bind (local_let n q) (λ a. local_for_parts p _)

  local_for_var : (p q : Place) → Local (Stmts.for_var n stmt p q)
  unfolding Stmts.for_var
  local_for_var p q = local_bind (local_var_local n q) (λ a. local_for_parts p _)

  local_for_by : (p q : Place) (kind : TokenKind) → Local (Stmts.for_by n stmt p q kind)
  local_for_by p q (k.Sign s.Semicolon) = local_for_parts p None
  local_for_by p q (k.Sign s.PlusPlus) = local_for_step p
  local_for_by p q (k.Sign s.MinusMinus) = local_for_step p
  local_for_by p q (k.Reserved w.Let) = local_bind local_skip (λ _. local_for_let p q)
  local_for_by p q (k.Reserved w.Var) = local_bind local_skip (λ _. local_for_var p q)
  local_for_by p q (k.Reserved w.Bool) = local_for_base p
  local_for_by p q (k.Reserved w.Int) = local_for_base p
  local_for_by p q (k.Reserved w.Int32) = local_for_base p
  local_for_by p q (k.Reserved w.Int64) = local_for_base p
  local_for_by p q (k.Reserved w.Wrap) = local_for_base p
  local_for_by p q (k.Reserved w.Clamp) = local_for_base p
  local_for_by p q (k.Word name) = local_for_name p
  local_for_by p q _ = local_refuse

  local_for_at : (p : Place) (o : Option Token) → Local (Stmts.for_at n stmt p o)
  local_for_at p None = local_refuse
  local_for_at p (Some t) = local_for_by p t.place t.kind

  local_for : (p : Place) → Local (Stmts.for_stmt n stmt p)
  unfolding Stmts.for_stmt
  local_for p = local_bind (local_bind (local_expect _) (λ _. local_look)) (local_for_at p)

  pub local_stmts : Local (Stmts.stmts n stmt)
  unfolding Stmts.stmts
  local_stmts = local_bind (local_while _ stmt ls ts []) (λ all. local_bind (local_expect _) (λ _. local_pure _))

  local_block : (p : Place) → Local (Stmts.block n stmt p)
  unfolding Stmts.block
  local_block p = local_bind local_stmts (λ all. local_pure _)

  local_if_stmt : (p : Place) → Local (Stmts.if_stmt n stmt p)
  unfolding Stmts.if_stmt
  local_if_stmt p = local_bind (local_condition n) (λ c. local_bind ls (λ a. local_bind (local_see _) (λ b.
      local_if b (local_bind (local_bind local_skip (λ _. ls)) (λ d. local_pure _)) (local_pure _))))

  local_loop : (p : Place) → Local (Stmts.loop_stmt n stmt p)
  unfolding Stmts.loop_stmt
  local_loop p = local_bind (local_optional _ (Words.condition n) (local_condition n)) (λ c. local_bind ls (λ a. local_pure _))

  local_while_stmt : (p : Place) → Local (Stmts.while_stmt n stmt p)
  unfolding Stmts.while_stmt
  local_while_stmt p = local_bind (local_condition n) (λ c. local_bind ls (λ a. local_pure _))

  local_return : (p : Place) → Local (Stmts.return_stmt n stmt p)
  unfolding Stmts.return_stmt
  local_return p = local_bind (local_value_up_to n) (λ c. local_pure _)

  local_advance : (p : Place) → Local (Stmts.advance_stmt n stmt p)
  unfolding Stmts.advance_stmt
  local_advance p = local_bind (local_bind (local_expect _) (λ _. local_expect _)) (λ _. local_semicolon _)

  local_let_stmt : (p : Place) → Local (Stmts.let_stmt n stmt p)
  unfolding Stmts.let_stmt
  local_let_stmt p = local_bind (local_let n p) (λ a. local_semicolon _)

  local_var_stmt : (p : Place) → Local (Stmts.var_stmt n stmt p)
  unfolding Stmts.var_stmt
  local_var_stmt p = local_bind (local_var_local n p) (λ a. local_semicolon _)

  local_step_stmt : Local (Stmts.step_stmt n stmt)
  unfolding Stmts.step_stmt
  local_step_stmt = local_bind (local_before n) (λ a. local_semicolon _)

  local_assert : (p : Place) → Local (Stmts.assert_stmt n stmt p)
  unfolding Stmts.assert_stmt
  local_assert p = local_bind (local_assertion n p) (λ a. local_pure _)

  local_reserved : (p : Place) (r : Reserved) → Local (Stmts.reserved_stmt n stmt p r)
  local_reserved p w.Let = local_bind local_skip (λ _. local_let_stmt p)
  local_reserved p w.Var = local_bind local_skip (λ _. local_var_stmt p)
  local_reserved p w.Bool = local_based_stmt n
  local_reserved p w.Int = local_based_stmt n
  local_reserved p w.Int32 = local_based_stmt n
  local_reserved p w.Int64 = local_based_stmt n
  local_reserved p w.Wrap = local_based_stmt n
  local_reserved p w.Clamp = local_based_stmt n
  local_reserved p w.StaticAssert = local_bind local_skip (λ _. local_assert p)
  local_reserved p w.If = local_bind local_skip (λ _. local_if_stmt p)
  local_reserved p w.Loop = local_bind local_skip (λ _. local_loop p)
  local_reserved p w.While = local_bind local_skip (λ _. local_while_stmt p)
  local_reserved p w.For = local_bind local_skip (λ _. local_for p)
  local_reserved p w.Break = local_bind local_skip (λ _. local_semicolon _)
  local_reserved p w.Continue = local_bind local_skip (λ _. local_semicolon _)
  local_reserved p w.Return = local_bind local_skip (λ _. local_return p)
  local_reserved p w.Advance = local_bind local_skip (λ _. local_advance p)
  local_reserved p _ = local_refuse

  local_by : (p : Place) (kind : TokenKind) → Local (Stmts.stmt_by n stmt p kind)
  local_by p (k.Sign s.LeftBrace) = local_bind local_skip (λ _. local_block p)
  local_by p (k.Sign s.Semicolon) = local_bind local_skip (λ _. local_pure _)
  local_by p (k.Sign s.PlusPlus) = local_step_stmt
  local_by p (k.Sign s.MinusMinus) = local_step_stmt
  local_by p (k.Reserved r) = local_reserved p r
  local_by p (k.Word name) = local_named_stmt n
  local_by p _ = local_refuse

  local_at : (o : Option Token) → Local (Stmts.stmt_at n stmt o)
  local_at None = local_refuse
  local_at (Some t) = local_by t.place t.kind

  local_one : Local (Stmts.one n stmt)
  unfolding Stmts.one
  local_one = local_bind local_look local_at

pub takes_within : {A : Type 0} (n : ℕ) {p : Parser A} → Takes p → Takes (Words.within n p)
takes_within n tp = takes_if (nat_eq n 0) takes_refuse tp

takes_begun : (n : ℕ) → Takes (Simples.begun_by_name n)
unfolding Simples.begun_by_name
takes_begun n = takes_within n (takes_bind takes_path (λ q. local_bind (local_see _) (local_call_or_rest n q)))

takes_changed_by : (n : ℕ) (t : Token) (ts : List Token) (o : Option Change) (a : Simple) (r : List Token) → Simples.changed_by n t.place o (t ∷ ts) ≡ answer a r → length r < suc (length ts)
takes_changed_by n t ts None a r is = absurd cc
takes_changed_by n t ts (Some change) a r is =
    let b = bind_ok ((skip >> Simples.target n) (t ∷ ts)) (λ x. pure (simple.Before t.place change x)) a r is in
    let less = takes_skip (Simples.target n) (local_target n) t ts b.0 b.1 b.2 in
    omega (arith, ap length (ok_rest (simple.Before t.place change b.0) a b.1 r b.3))

takes_before_at : (n : ℕ) (ts : List Token) (a : Simple) (r : List Token) → Simples.before n ts ≡ answer a r → length r < length ts
unfolding Simples.before look
takes_before_at n [] a r is = absurd cc
takes_before_at n (t ∷ ts) a r is = takes_changed_by n t ts (Simples.change_of t.kind) a r is

takes_before : (n : ℕ) → Takes (Simples.before n)
takes_before n = record { some = takes_before_at n }

takes_named_stmt : (n : ℕ) → Takes (Stmts.named_stmt n)
unfolding Stmts.named_stmt
takes_named_stmt n = takes_bind (takes_begun n) (local_begun_stmt n)

takes_based_stmt : (n : ℕ) → Takes (Stmts.based_stmt n)
unfolding Stmts.based_stmt
takes_based_stmt n = takes_bind (takes_type n) (λ ty. local_bind (local_typed_local n ty) (λ a. local_semicolon _))

module _ (n : ℕ) (stmt : Parser Stmt) (ls : Local stmt) (tk : Takes stmt) where
  takes_step_stmt : Takes (Stmts.step_stmt n stmt)
  unfolding Stmts.step_stmt
  takes_step_stmt = takes_bind (takes_before n) (λ a. local_semicolon _)

  takes_reserved : (t : Token) (ts : List Token) (word : Reserved) (p : Place) (a : Stmt) (r : List Token) → Stmts.reserved_stmt n stmt p word (t ∷ ts) ≡ answer a r → length r < suc (length ts)
  takes_reserved t ts w.Let p a r is = takes_skip _ (local_let_stmt n stmt ls tk p) t ts a r is
  takes_reserved t ts w.Var p a r is = takes_skip _ (local_var_stmt n stmt ls tk p) t ts a r is
  takes_reserved t ts w.Bool p a r is = (takes_based_stmt n).some (t ∷ ts) a r is
  takes_reserved t ts w.Int p a r is = (takes_based_stmt n).some (t ∷ ts) a r is
  takes_reserved t ts w.Int32 p a r is = (takes_based_stmt n).some (t ∷ ts) a r is
  takes_reserved t ts w.Int64 p a r is = (takes_based_stmt n).some (t ∷ ts) a r is
  takes_reserved t ts w.Wrap p a r is = (takes_based_stmt n).some (t ∷ ts) a r is
  takes_reserved t ts w.Clamp p a r is = (takes_based_stmt n).some (t ∷ ts) a r is
  takes_reserved t ts w.StaticAssert p a r is = takes_skip _ (local_assert n stmt ls tk p) t ts a r is
  takes_reserved t ts w.If p a r is = takes_skip _ (local_if_stmt n stmt ls tk p) t ts a r is
  takes_reserved t ts w.Loop p a r is = takes_skip _ (local_loop n stmt ls tk p) t ts a r is
  takes_reserved t ts w.While p a r is = takes_skip _ (local_while_stmt n stmt ls tk p) t ts a r is
  takes_reserved t ts w.For p a r is = takes_skip _ (local_for n stmt ls tk p) t ts a r is
  takes_reserved t ts w.Break p a r is = takes_skip _ (local_semicolon (x.Break p)) t ts a r is
  takes_reserved t ts w.Continue p a r is = takes_skip _ (local_semicolon (x.Continue p)) t ts a r is
  takes_reserved t ts w.Return p a r is = takes_skip _ (local_return n stmt ls tk p) t ts a r is
  takes_reserved t ts w.Advance p a r is = takes_skip _ (local_advance n stmt ls tk p) t ts a r is
  takes_reserved t ts _ p a r is = absurd cc

  takes_by : (t : Token) (ts : List Token) (kind : TokenKind) (p : Place) (a : Stmt) (r : List Token) → Stmts.stmt_by n stmt p kind (t ∷ ts) ≡ answer a r → length r < suc (length ts)
  takes_by t ts (k.Sign s.LeftBrace) p a r is = takes_skip _ (local_block n stmt ls tk p) t ts a r is
  takes_by t ts (k.Sign s.Semicolon) p a r is = takes_skip _ (local_pure (x.Empty p)) t ts a r is
  takes_by t ts (k.Sign s.PlusPlus) p a r is = takes_step_stmt.some (t ∷ ts) a r is
  takes_by t ts (k.Sign s.MinusMinus) p a r is = takes_step_stmt.some (t ∷ ts) a r is
  takes_by t ts (k.Reserved word) p a r is = takes_reserved t ts word p a r is
  takes_by t ts (k.Word name) p a r is = (takes_named_stmt n).some (t ∷ ts) a r is
  takes_by t ts _ p a r is = absurd cc

  takes_one_at : (ts : List Token) (a : Stmt) (r : List Token) → Stmts.one n stmt ts ≡ answer a r → length r < length ts
  unfolding Stmts.one look
  takes_one_at [] a r is = absurd cc
  takes_one_at (t ∷ ts) a r is = takes_by t ts t.kind t.place a r is

-- what a statement is read from
pub record StmtReads (n : ℕ) : Type 0 where
  pub local : Local (Stmts.stmt n)
  pub takes : Takes (Stmts.stmt n)

no_stmt : StmtReads 0
unfolding Stmts.stmt
no_stmt = record { local = local_refuse; takes = takes_refuse }

more_stmt : (n : ℕ) → StmtReads n → StmtReads (suc n)
unfolding Stmts.stmt
more_stmt n h = record { local = local_one n (Stmts.stmt n) h.local h.takes; takes = record { some = takes_one_at n (Stmts.stmt n) h.local h.takes } }

pub stmt_reads : (n : ℕ) → StmtReads n
stmt_reads zero = no_stmt
stmt_reads (suc n) = more_stmt n (stmt_reads n)

pub local_body : (n : ℕ) → Local (Stmts.body n)
unfolding Stmts.body
local_body n = local_within n (local_bind local_here (λ p. local_bind (local_bind (local_expect _) (λ _. local_stmts (n - 1) (Stmts.stmt (n - 1)) (stmt_reads (n - 1)).local (stmt_reads (n - 1)).takes)) (λ all. local_pure _)))
