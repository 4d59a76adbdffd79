-- No parser of declarations looks past the token after what it reads: one line for each.
use Rattle.std.proofs.Common.{◌≡◌, ℕ, zero, suc, ◌-◌, ◌<◌, Bool, true, false, List, [], ◌∷◌, length, Option, Some, None, ap, arith}
use Rattle.cm_base.specs.declared.place.Place.{Place}
use Rattle.cm_base.specs.declared.host.Flow.{Flow}
use Rattle.cm_base.specs.declared.host.Kind.{Kind}
use Rattle.cm_tree.specs.declared.token.Token.{Token}
use Rattle.cm_tree.specs.declared.token.TokenKind.{TokenKind}
use Rattle.cm_tree.specs.declared.token.TokenKind.TheVariants as k
use Rattle.cm_tree.specs.declared.reserved.Reserved.{Reserved}
use Rattle.cm_tree.specs.declared.reserved.Reserved.TheVariants as w
use Rattle.cm_tree.specs.declared.path.Word.{Word}
use Rattle.cm_tree.specs.declared.type_expr.TypeExpr.{TypeExpr}
use Rattle.cm_tree.specs.declared.member.End.{End}
use Rattle.cm_tree.specs.declared.member.Member.TheVariants as member
use Rattle.cm_tree.specs.declared.decl.Decl.TheVariants as d
use Rattle.cm_tree.specs.declared.shared.Shared.{Shared}
use Rattle.cm_tree.specs.declared.member.Member.{Member}
use Rattle.cm_tree.specs.declared.decl.Decl.{Decl}
use Rattle.token_reader.specs.Parsers.{Parser, ◌>>=◌, ◌>>◌, pure, look, skip}
use Rattle.token_reader.specs.Lists.{name}
use Rattle.token_reader.specs.Local.{Local, Takes}
use Rattle.token_reader.proofs.Inverses.{answer, bind_ok, ok_rest}
use Rattle.token_reader.proofs.Locality.{local_pure, local_refuse, local_look, local_skip, local_see, local_expect, local_if, local_bind, local_text, local_optional, local_while, local_separated, takes_refuse, takes_bind, takes_then, takes_if, takes_skip, shrinks}
use Rattle.cm_parse_expr.specs.Reading.{type_expr, arg}
use Rattle.cm_parse_expr.proofs.Reach.{local_path, local_expr, local_type, local_arg}
use Rattle.file_grammar.proofs.Takes.{takes_type}
use Rattle.file_grammar.specs.Words
use Rattle.file_grammar.specs.Members
use Rattle.file_grammar.specs.Files
use Rattle.file_grammar.proofs.Far.{local_within, local_here, local_word, takes_word, local_bracket, local_typed, local_in_parentheses, local_value, local_inits, local_vars_of, local_assertion, local_semicolon, takes_within, local_body}

-- ---- parts of declarations

pub local_in_braces : {A : Type 0} {part : Parser A} → Local part → Takes part → Local (Members.in_braces part)
unfolding Members.in_braces
local_in_braces {part = part} lp tp = local_bind (local_while _ part lp tp []) (λ all. local_bind (local_expect _) (λ _. local_pure _))

pub local_group : {A : Type 0} {part : Parser A} → Local part → Takes part → Local (Members.group part)
unfolding Members.group
local_group lp tp = local_bind (local_see _) (λ b. local_if b (local_bind local_skip (λ _. local_in_braces lp tp)) (local_bind lp (λ x. local_pure _)))

local_key_value : (n : ℕ) → Local (Members.key_value n)
unfolding Members.key_value
local_key_value n = local_bind (local_bind (local_expect _) (λ _. local_see _)) (λ b. local_if b (local_bind local_text (λ t. local_pure _)) (local_bind (local_expr n) (λ e. local_pure _)))

pub local_one_key : (n : ℕ) → Local (Members.one_key n)
unfolding Members.one_key
local_one_key n = local_bind local_word (λ name. local_bind (local_optional _ (Members.key_value n) (local_key_value n)) (λ v. local_pure _))

pub local_keys : (n : ℕ) → Local (Members.keys n)
unfolding Members.keys
local_keys n = local_bind (local_see _) (λ b. local_if b
    (local_bind (local_bind (local_bind local_skip (λ _. local_expect _)) (λ _. local_separated _ (Members.one_key n) (local_one_key n))) (λ all.
    local_bind (local_bind (local_expect _) (λ _. local_expect _)) (λ _. local_pure _)))
    (local_pure _))

pub local_end_name : (n : ℕ) → Local (Members.end_name n)
unfolding Members.end_name
local_end_name n = local_bind local_word (λ name. local_bind (local_keys n) (λ all. local_pure _))

pub local_end_names : (n : ℕ) (p : Place) (which : Kind) (ty : TypeExpr) → Local (Members.end_names n p which ty)
unfolding Members.end_names
local_end_names n p which ty = local_bind (local_separated _ (Members.end_name n) (local_end_name n)) (λ names. local_semicolon _)

local_end_by : (n : ℕ) (p : Place) (which : Option Kind) → Local (Members.end_by n p which)
local_end_by n p None = local_refuse
local_end_by n p (Some which) = local_bind (local_bind local_skip (λ _. local_type n)) (local_end_names n p which)

local_end_at : (n : ℕ) (o : Option Token) → Local (Members.end_at n o)
local_end_at n None = local_refuse
local_end_at n (Some t) = local_end_by n t.place (Members.kind_of t.kind)

pub local_one_end : (n : ℕ) → Local (Members.one_end n)
unfolding Members.one_end
local_one_end n = local_bind local_look (local_end_at n)

takes_end_by : (n : ℕ) (t : Token) (ts : List Token) (p : Place) (which : Option Kind) (a : End) (r : List Token) → Members.end_by n p which (t ∷ ts) ≡ answer a r → length r < suc (length ts)
takes_end_by n t ts p None a r is = absurd cc
takes_end_by n t ts p (Some which) a r is =
    let b = bind_ok ((skip >> type_expr n) (t ∷ ts)) (Members.end_names n p which) a r is in
    let less = takes_skip (type_expr n) (local_type n) t ts b.0 b.1 b.2 in
    omega (arith, shrinks (Members.end_names n p which b.0) (local_end_names n p which b.0) b.1 a r b.3)

takes_end_from : (n : ℕ) (ts : List Token) (a : End) (r : List Token) → Members.one_end n ts ≡ answer a r → length r < length ts
unfolding Members.one_end look
takes_end_from n [] a r is = absurd cc
takes_end_from n (t ∷ ts) a r is = takes_end_by n t ts t.place (Members.kind_of t.kind) a r is

pub takes_one_end : (n : ℕ) → Takes (Members.one_end n)
takes_one_end n = record { some = takes_end_from n }

local_ends : (n : ℕ) (p : Place) (way : Flow) → Local (Members.ends n p way)
unfolding Members.ends
local_ends n p way = local_bind (local_group (local_one_end n) (takes_one_end n)) (λ all. local_pure _)

pub local_fields : (n : ℕ) → Local (Members.fields n)
unfolding Members.fields
local_fields n = local_bind (local_type n) (λ ty. local_bind (local_separated _ Words.word local_word) (λ names. local_semicolon _))

pub takes_fields : (n : ℕ) → Takes (Members.fields n)
unfolding Members.fields
takes_fields n = takes_bind (takes_type n) (λ ty. local_bind (local_separated _ Words.word local_word) (λ names. local_semicolon _))

pub local_structure : (n : ℕ) (p : Place) → Local (Members.structure n p)
unfolding Members.structure
local_structure n p = local_bind local_word (λ name. local_bind (local_bind (local_expect _) (λ _. local_in_braces (local_fields n) (takes_fields n))) (λ all. local_pure _))

pub local_alias : (n : ℕ) (p : Place) → Local (Members.alias n p)
unfolding Members.alias
local_alias n p = local_bind local_word (λ name. local_bind (local_bind (local_expect _) (λ _. local_type n)) (λ ty. local_semicolon _))

pub local_constants : (n : ℕ) (p : Place) → Local (Members.constants n p)
unfolding Members.constants
local_constants n p = local_bind (local_inits n) (λ all. local_semicolon _)

pub local_asserted : (n : ℕ) (p : Place) → Local (Members.asserted n p)
unfolding Members.asserted
local_asserted n p = local_bind (local_assertion n p) (λ a. local_pure _)

pub local_function_of : (n : ℕ) (p : Place) (ty : Option TypeExpr) (name : Word) → Local (Members.function_of n p ty name)
unfolding Members.function_of
local_function_of n p ty name = local_bind (local_in_parentheses (local_typed n)) (λ params. local_bind (local_body n) (λ b. local_pure _))

pub local_void : (n : ℕ) (p : Place) → Local (Members.void_function n p)
unfolding Members.void_function
local_void n p = local_bind local_word (local_function_of n p None)

-- ---- nodes and connections

pub local_node_args : (n : ℕ) → Local (Members.args n)
unfolding Members.args
local_node_args n = local_bind (local_see _) (λ b. local_if b (local_bind (local_bind local_skip (λ _. local_separated _ (arg n) (local_arg n))) (λ all. local_bind (local_expect _) (λ _. local_pure _))) (local_pure _))

local_index : (n : ℕ) → Local (Members.index n)
unfolding Members.index
local_index n = local_bind (local_bracket n) (λ q. local_pure _)

local_factor : (n : ℕ) → Local (Members.factor n)
unfolding Members.factor
local_factor n = local_bind (local_expect _) (λ _. local_expr n)

pub local_one_node : (n : ℕ) → Local (Members.one_node n)
unfolding Members.one_node
local_one_node n = local_bind local_word (λ name. local_bind (local_bind (local_expect _) (λ _. local_within n local_path)) (λ q. local_bind (local_node_args n) (λ all.
    local_bind (local_optional _ (Members.index n) (local_index n)) (λ count. local_bind (local_optional _ (Members.factor n) (local_factor n)) (λ f. local_pure _)))))

local_nodes : (n : ℕ) (p : Place) → Local (Members.nodes n p)
unfolding Members.nodes
local_nodes n p = local_bind (local_separated _ (Members.one_node n) (local_one_node n)) (λ all. local_semicolon _)

local_dotted : Local Members.dotted
unfolding Members.dotted
local_dotted = local_bind (local_expect _) (λ _. local_word)

local_point : (n : ℕ) → Local (Members.point n)
unfolding Members.point
local_point n = local_within n (local_bind local_word (λ name. local_bind (local_optional _ (Members.index n) (local_index n)) (λ i. local_bind (local_optional _ Members.dotted local_dotted) (λ e. local_pure _))))

takes_point : (n : ℕ) → Takes (Members.point n)
unfolding Members.point
takes_point n = takes_within n (takes_bind takes_word (λ name. local_bind (local_optional _ (Members.index n) (local_index n)) (λ i. local_bind (local_optional _ Members.dotted local_dotted) (λ e. local_pure _))))

local_delay : (n : ℕ) → Local (Members.delay n)
unfolding Members.delay
local_delay n = local_bind (local_bind (local_expect _) (λ _. local_expr n)) (λ e. local_bind (local_bind (local_expect _) (λ _. local_expect _)) (λ _. local_pure _))

local_link_of : (n : ℕ) (p : Place) (latch : Bool) → Local (Members.link_of n p latch)
unfolding Members.link_of
local_link_of n p latch = local_bind (local_point n) (λ a. local_bind (local_bind (local_expect _) (λ _. local_optional _ (Members.delay n) (local_delay n))) (λ d. local_bind (local_point n) (λ b. local_semicolon _)))

takes_link_of : (n : ℕ) (p : Place) (latch : Bool) → Takes (Members.link_of n p latch)
unfolding Members.link_of
takes_link_of n p latch = takes_bind (takes_point n) (λ a. local_bind (local_bind (local_expect _) (λ _. local_optional _ (Members.delay n) (local_delay n))) (λ d. local_bind (local_point n) (λ b. local_semicolon _)))

pub local_link : (n : ℕ) → Local (Members.link n)
unfolding Members.link
local_link n = local_bind local_here (λ p. local_bind (local_see _) (λ b. local_if b
    (local_bind (local_bind (local_bind local_skip (λ _. local_expect _)) (λ _. local_expect _)) (λ _. local_link_of n p true)) (local_link_of n p false)))

pub takes_link : (n : ℕ) → Takes (Members.link n)
unfolding Members.link
takes_link n = takes_then local_here (λ p. takes_then (local_see _) (λ b. takes_if b
    (takes_then (local_bind (local_bind local_skip (λ _. local_expect _)) (λ _. local_expect _)) (λ _. takes_link_of n p true)) (takes_link_of n p false)))

local_connection : (n : ℕ) (p : Place) → Local (Members.connection n p)
unfolding Members.connection
local_connection n p = local_bind (local_group (local_link n) (takes_link n)) (λ all. local_pure _)

-- ---- members

local_handler : (n : ℕ) (p : Place) → Local (Members.handler n p)
unfolding Members.handler
local_handler n p = local_bind local_word (λ name. local_bind (local_bind (local_expect _) (λ _. local_typed n)) (λ a. local_bind (local_bind (local_expect _) (λ _. local_body n)) (λ b. local_pure _)))

local_variables : (n : ℕ) (p : Place) → Local (Members.variables n p)
unfolding Members.variables
local_variables n p = local_bind (local_inits n) (λ all. local_semicolon _)

local_latency : (n : ℕ) (p : Place) → Local (Members.latency n p)
unfolding Members.latency
local_latency n p = local_bind (local_bind (local_bind (local_expect _) (λ _. local_expect _)) (λ _. local_value n)) (λ e. local_semicolon _)

local_typed_member_rest : (n : ℕ) (p : Place) (ty : TypeExpr) (name : Word) (b : Bool) → Local (Members.typed_member_if n p ty name b)
local_typed_member_rest n p ty name b = local_if b (local_bind (local_function_of n p (Some ty) name) (λ f. local_pure _)) (local_bind (local_vars_of n name) (λ all. local_semicolon _))

local_typed_member : (n : ℕ) (p : Place) → Local (Members.typed_member n p)
unfolding Members.typed_member
local_typed_member n p = local_bind (local_type n) (λ ty. local_bind local_word (λ name. local_bind (local_see _) (local_typed_member_rest n p ty name)))

takes_typed_member : (n : ℕ) (p : Place) → Takes (Members.typed_member n p)
unfolding Members.typed_member
takes_typed_member n p = takes_bind (takes_type n) (λ ty. local_bind local_word (λ name. local_bind (local_see _) (local_typed_member_rest n p ty name)))

local_shared_rest : {a : Parser Shared} → Local a → Local (a >>= (λ y. pure (member.Shared y)))
local_shared_rest la = local_bind la (λ y. local_pure _)

takes_shared : (a : Parser Shared) → Local a → (t : Token) (ts : List Token) (m : Member) (r : List Token) → Members.shared_member a (t ∷ ts) ≡ answer m r → length r < suc (length ts)
takes_shared a la t ts m r is =
    let b = bind_ok ((skip >> a) (t ∷ ts)) (λ y. pure (member.Shared y)) m r is in
    let less = takes_skip a la t ts b.0 b.1 b.2 in
    omega (arith, ap length (ok_rest (member.Shared b.0) m b.1 r b.3))

local_shared : {a : Parser Shared} → Local a → Local (Members.shared_member a)
local_shared la = local_bind (local_bind local_skip (λ _. la)) (λ y. local_pure _)

local_void_member : (n : ℕ) (p : Place) → Local (skip >> Members.void_function n p >>= (λ f. pure (member.Function f)))
local_void_member n p = local_bind (local_bind local_skip (λ _. local_void n p)) (λ f. local_pure _)

takes_void_member : (n : ℕ) (p : Place) (t : Token) (ts : List Token) (m : Member) (r : List Token) → (skip >> Members.void_function n p >>= (λ f. pure (member.Function f))) (t ∷ ts) ≡ answer m r → length r < suc (length ts)
takes_void_member n p t ts m r is =
    let b = bind_ok ((skip >> Members.void_function n p) (t ∷ ts)) (λ f. pure (member.Function f)) m r is in
    let less = takes_skip (Members.void_function n p) (local_void n p) t ts b.0 b.1 b.2 in
    omega (arith, ap length (ok_rest (member.Function b.0) m b.1 r b.3))

local_processor_by : (n : ℕ) (p : Place) (kind : TokenKind) → Local (Members.processor_member_by n p kind)
local_processor_by n p (k.Reserved w.Input) = local_bind local_skip (λ _. local_ends n p _)
local_processor_by n p (k.Reserved w.Output) = local_bind local_skip (λ _. local_ends n p _)
local_processor_by n p (k.Reserved w.Struct) = local_shared (local_structure n p)
local_processor_by n p (k.Reserved w.Using) = local_shared (local_alias n p)
local_processor_by n p (k.Reserved w.Let) = local_shared (local_constants n p)
local_processor_by n p (k.Reserved w.StaticAssert) = local_shared (local_asserted n p)
local_processor_by n p (k.Reserved w.Event) = local_bind local_skip (λ _. local_handler n p)
local_processor_by n p (k.Reserved w.Var) = local_bind local_skip (λ _. local_variables n p)
local_processor_by n p (k.Reserved w.Processor) = local_bind local_skip (λ _. local_latency n p)
local_processor_by n p (k.Reserved w.Void) = local_void_member n p
local_processor_by n p (k.Reserved w.Bool) = local_typed_member n p
local_processor_by n p (k.Reserved w.Int) = local_typed_member n p
local_processor_by n p (k.Reserved w.Int32) = local_typed_member n p
local_processor_by n p (k.Reserved w.Int64) = local_typed_member n p
local_processor_by n p (k.Reserved w.Wrap) = local_typed_member n p
local_processor_by n p (k.Reserved w.Clamp) = local_typed_member n p
local_processor_by n p (k.Word name) = local_typed_member n p
local_processor_by n p _ = local_refuse

local_processor_at : (n : ℕ) (o : Option Token) → Local (Members.processor_member_at n o)
local_processor_at n None = local_refuse
local_processor_at n (Some t) = local_processor_by n t.place t.kind

pub local_processor_member : (n : ℕ) → Local (Members.processor_member n)
unfolding Members.processor_member
local_processor_member n = local_bind local_look (local_processor_at n)

takes_processor_by : (n : ℕ) (t : Token) (ts : List Token) (p : Place) (kind : TokenKind) (a : Member) (r : List Token) → Members.processor_member_by n p kind (t ∷ ts) ≡ answer a r → length r < suc (length ts)
takes_processor_by n t ts p (k.Reserved w.Input) a r is = takes_skip _ (local_ends n p _) t ts a r is
takes_processor_by n t ts p (k.Reserved w.Output) a r is = takes_skip _ (local_ends n p _) t ts a r is
takes_processor_by n t ts p (k.Reserved w.Struct) a r is = takes_shared _ (local_structure n p) t ts a r is
takes_processor_by n t ts p (k.Reserved w.Using) a r is = takes_shared _ (local_alias n p) t ts a r is
takes_processor_by n t ts p (k.Reserved w.Let) a r is = takes_shared _ (local_constants n p) t ts a r is
takes_processor_by n t ts p (k.Reserved w.StaticAssert) a r is = takes_shared _ (local_asserted n p) t ts a r is
takes_processor_by n t ts p (k.Reserved w.Event) a r is = takes_skip _ (local_handler n p) t ts a r is
takes_processor_by n t ts p (k.Reserved w.Var) a r is = takes_skip _ (local_variables n p) t ts a r is
takes_processor_by n t ts p (k.Reserved w.Processor) a r is = takes_skip _ (local_latency n p) t ts a r is
takes_processor_by n t ts p (k.Reserved w.Void) a r is = takes_void_member n p t ts a r is
takes_processor_by n t ts p (k.Reserved w.Bool) a r is = (takes_typed_member n p).some (t ∷ ts) a r is
takes_processor_by n t ts p (k.Reserved w.Int) a r is = (takes_typed_member n p).some (t ∷ ts) a r is
takes_processor_by n t ts p (k.Reserved w.Int32) a r is = (takes_typed_member n p).some (t ∷ ts) a r is
takes_processor_by n t ts p (k.Reserved w.Int64) a r is = (takes_typed_member n p).some (t ∷ ts) a r is
takes_processor_by n t ts p (k.Reserved w.Wrap) a r is = (takes_typed_member n p).some (t ∷ ts) a r is
takes_processor_by n t ts p (k.Reserved w.Clamp) a r is = (takes_typed_member n p).some (t ∷ ts) a r is
takes_processor_by n t ts p (k.Word name) a r is = (takes_typed_member n p).some (t ∷ ts) a r is
takes_processor_by n t ts p _ a r is = absurd cc

takes_processor_from : (n : ℕ) (ts : List Token) (a : Member) (r : List Token) → Members.processor_member n ts ≡ answer a r → length r < length ts
unfolding Members.processor_member look
takes_processor_from n [] a r is = absurd cc
takes_processor_from n (t ∷ ts) a r is = takes_processor_by n t ts t.place t.kind a r is

pub takes_processor_member : (n : ℕ) → Takes (Members.processor_member n)
takes_processor_member n = record { some = takes_processor_from n }

local_graph_by : (n : ℕ) (p : Place) (kind : TokenKind) → Local (Members.graph_member_by n p kind)
local_graph_by n p (k.Reserved w.Input) = local_bind local_skip (λ _. local_ends n p _)
local_graph_by n p (k.Reserved w.Output) = local_bind local_skip (λ _. local_ends n p _)
local_graph_by n p (k.Reserved w.Struct) = local_shared (local_structure n p)
local_graph_by n p (k.Reserved w.Using) = local_shared (local_alias n p)
local_graph_by n p (k.Reserved w.Let) = local_shared (local_constants n p)
local_graph_by n p (k.Reserved w.StaticAssert) = local_shared (local_asserted n p)
local_graph_by n p (k.Reserved w.Node) = local_bind local_skip (λ _. local_nodes n p)
local_graph_by n p (k.Reserved w.Connection) = local_bind local_skip (λ _. local_connection n p)
local_graph_by n p _ = local_refuse

local_graph_at : (n : ℕ) (o : Option Token) → Local (Members.graph_member_at n o)
local_graph_at n None = local_refuse
local_graph_at n (Some t) = local_graph_by n t.place t.kind

pub local_graph_member : (n : ℕ) → Local (Members.graph_member n)
unfolding Members.graph_member
local_graph_member n = local_bind local_look (local_graph_at n)

takes_graph_by : (n : ℕ) (t : Token) (ts : List Token) (p : Place) (kind : TokenKind) (a : Member) (r : List Token) → Members.graph_member_by n p kind (t ∷ ts) ≡ answer a r → length r < suc (length ts)
takes_graph_by n t ts p (k.Reserved w.Input) a r is = takes_skip _ (local_ends n p _) t ts a r is
takes_graph_by n t ts p (k.Reserved w.Output) a r is = takes_skip _ (local_ends n p _) t ts a r is
takes_graph_by n t ts p (k.Reserved w.Struct) a r is = takes_shared _ (local_structure n p) t ts a r is
takes_graph_by n t ts p (k.Reserved w.Using) a r is = takes_shared _ (local_alias n p) t ts a r is
takes_graph_by n t ts p (k.Reserved w.Let) a r is = takes_shared _ (local_constants n p) t ts a r is
takes_graph_by n t ts p (k.Reserved w.StaticAssert) a r is = takes_shared _ (local_asserted n p) t ts a r is
takes_graph_by n t ts p (k.Reserved w.Node) a r is = takes_skip _ (local_nodes n p) t ts a r is
takes_graph_by n t ts p (k.Reserved w.Connection) a r is = takes_skip _ (local_connection n p) t ts a r is
takes_graph_by n t ts p _ a r is = absurd cc

takes_graph_from : (n : ℕ) (ts : List Token) (a : Member) (r : List Token) → Members.graph_member n ts ≡ answer a r → length r < length ts
unfolding Members.graph_member look
takes_graph_from n [] a r is = absurd cc
takes_graph_from n (t ∷ ts) a r is = takes_graph_by n t ts t.place t.kind a r is

pub takes_graph_member : (n : ℕ) → Takes (Members.graph_member n)
takes_graph_member n = record { some = takes_graph_from n }

-- ---- declarations and files

pub local_one_param : (n : ℕ) → Local (Files.one_param n)
unfolding Files.one_param
local_one_param n = local_bind local_here (λ p. local_bind (local_see _) (λ b. local_if b (local_within n (local_bind (local_bind local_skip (λ _. local_word)) (λ name. local_pure _))) (local_bind (local_typed n) (λ t. local_pure _))))

pub local_params : (n : ℕ) → Local (Files.params n)
unfolding Files.params
local_params n = local_bind (local_see _) (λ b. local_if b (local_bind (local_bind local_skip (λ _. local_separated _ (Files.one_param n) (local_one_param n))) (λ all. local_bind (local_expect _) (λ _. local_pure _))) (local_pure _))

pub local_below : {A : Type 0} (n : ℕ) {p : Parser A} → Local p → Local (Files.below n p)
unfolding Files.below
local_below n lp = local_within n lp

pub takes_below : {A : Type 0} (n : ℕ) {p : Parser A} → Takes p → Takes (Files.below n p)
unfolding Files.below
takes_below n tp = takes_within n tp

local_unit_of : (n : ℕ) (item : Parser Member) → Local item → Takes item → (p : Place) → Local (Files.unit_of n item p)
unfolding Files.unit_of
local_unit_of n item li ti p = local_bind local_word (λ name. local_bind (local_params n) (λ all. local_bind (local_keys n) (λ marks.
    local_bind (local_bind (local_expect _) (λ _. local_in_braces li ti)) (λ members. local_pure _))))

local_processor : (n : ℕ) (p : Place) → Local (Files.processor n p)
unfolding Files.processor
local_processor n p = local_unit_of n _ (local_below n (local_processor_member (n - 1))) (takes_below n (takes_processor_member (n - 1))) p

local_graph : (n : ℕ) (p : Place) → Local (Files.graph n p)
unfolding Files.graph
local_graph n p = local_unit_of n _ (local_below n (local_graph_member (n - 1))) (takes_below n (takes_graph_member (n - 1))) p

local_typed_function : (n : ℕ) (p : Place) → Local (Files.typed_function n p)
unfolding Files.typed_function
local_typed_function n p = local_bind (local_type n) (λ ty. local_bind local_word (local_function_of n p (Some ty)))

takes_typed_function : (n : ℕ) (p : Place) → Takes (Files.typed_function n p)
unfolding Files.typed_function
takes_typed_function n p = takes_bind (takes_type n) (λ ty. local_bind local_word (local_function_of n p (Some ty)))

-- after a first token that is taken
local_then : {A B : Type 0} {p : Parser A} (f : A → B) → Local p → Local (skip >> p >>= (λ y. pure (f y)))
local_then f lp = local_bind (local_bind local_skip (λ _. lp)) (λ y. local_pure _)

takes_then_skip : {A B : Type 0} (p : Parser A) (f : A → B) → Local p → (t : Token) (ts : List Token) (b : B) (r : List Token) → (skip >> p >>= (λ y. pure (f y))) (t ∷ ts) ≡ answer b r → length r < suc (length ts)
takes_then_skip p f lp t ts b r is =
    let c = bind_ok ((skip >> p) (t ∷ ts)) (λ y. pure (f y)) b r is in
    let less = takes_skip p lp t ts c.0 c.1 c.2 in
    omega (arith, ap length (ok_rest (f c.0) b c.1 r c.3))

local_reserved_decl : (n : ℕ) (p : Place) (r : Reserved) → Local (Files.reserved_decl n p r)
local_reserved_decl n p w.Processor = local_then d.Processor (local_processor n p)
local_reserved_decl n p w.Graph = local_then d.Graph (local_graph n p)
local_reserved_decl n p w.Struct = local_then d.Shared (local_structure n p)
local_reserved_decl n p w.Using = local_then d.Shared (local_alias n p)
local_reserved_decl n p w.Let = local_then d.Shared (local_constants n p)
local_reserved_decl n p w.StaticAssert = local_then d.Shared (local_asserted n p)
local_reserved_decl n p w.Void = local_then d.Function (local_void n p)
local_reserved_decl n p w.Bool = local_bind (local_typed_function n p) (λ f. local_pure _)
local_reserved_decl n p w.Int = local_bind (local_typed_function n p) (λ f. local_pure _)
local_reserved_decl n p w.Int32 = local_bind (local_typed_function n p) (λ f. local_pure _)
local_reserved_decl n p w.Int64 = local_bind (local_typed_function n p) (λ f. local_pure _)
local_reserved_decl n p w.Wrap = local_bind (local_typed_function n p) (λ f. local_pure _)
local_reserved_decl n p w.Clamp = local_bind (local_typed_function n p) (λ f. local_pure _)
local_reserved_decl n p _ = local_refuse

takes_function_decl : (n : ℕ) (p : Place) → Takes (Files.typed_function n p >>= (λ f. pure (d.Function f)))
takes_function_decl n p = takes_bind (takes_typed_function n p) (λ f. local_pure _)

takes_reserved_decl : (n : ℕ) (t : Token) (ts : List Token) (p : Place) (word : Reserved) (a : Decl) (r : List Token) → Files.reserved_decl n p word (t ∷ ts) ≡ answer a r → length r < suc (length ts)
takes_reserved_decl n t ts p w.Processor a r is = takes_then_skip _ d.Processor (local_processor n p) t ts a r is
takes_reserved_decl n t ts p w.Graph a r is = takes_then_skip _ d.Graph (local_graph n p) t ts a r is
takes_reserved_decl n t ts p w.Struct a r is = takes_then_skip _ d.Shared (local_structure n p) t ts a r is
takes_reserved_decl n t ts p w.Using a r is = takes_then_skip _ d.Shared (local_alias n p) t ts a r is
takes_reserved_decl n t ts p w.Let a r is = takes_then_skip _ d.Shared (local_constants n p) t ts a r is
takes_reserved_decl n t ts p w.StaticAssert a r is = takes_then_skip _ d.Shared (local_asserted n p) t ts a r is
takes_reserved_decl n t ts p w.Void a r is = takes_then_skip _ d.Function (local_void n p) t ts a r is
takes_reserved_decl n t ts p w.Bool a r is = (takes_function_decl n p).some (t ∷ ts) a r is
takes_reserved_decl n t ts p w.Int a r is = (takes_function_decl n p).some (t ∷ ts) a r is
takes_reserved_decl n t ts p w.Int32 a r is = (takes_function_decl n p).some (t ∷ ts) a r is
takes_reserved_decl n t ts p w.Int64 a r is = (takes_function_decl n p).some (t ∷ ts) a r is
takes_reserved_decl n t ts p w.Wrap a r is = (takes_function_decl n p).some (t ∷ ts) a r is
takes_reserved_decl n t ts p w.Clamp a r is = (takes_function_decl n p).some (t ∷ ts) a r is
takes_reserved_decl n t ts p _ a r is = absurd cc

module _ (n : ℕ) (decl : Parser Decl) (ld : Local decl) (td : Takes decl) where
  local_namespace : (p : Place) → Local (Files.namespace_of n decl p)
  unfolding Files.namespace_of
  local_namespace p = local_bind local_path (λ q. local_bind (local_bind (local_expect _) (λ _. local_in_braces ld td)) (λ all. local_pure _))

  local_decl_by : (p : Place) (kind : TokenKind) → Local (Files.decl_by n decl p kind)
  local_decl_by p (k.Reserved w.Namespace) = local_bind local_skip (λ _. local_namespace p)
  local_decl_by p (k.Reserved r) = local_reserved_decl n p r
  local_decl_by p (k.Word name) = local_bind (local_typed_function n p) (λ f. local_pure _)
  local_decl_by p _ = local_refuse

  local_decl_at : (o : Option Token) → Local (Files.decl_at n decl o)
  local_decl_at None = local_refuse
  local_decl_at (Some t) = local_decl_by t.place t.kind

  local_one_decl : Local (Files.one n decl)
  unfolding Files.one
  local_one_decl = local_bind local_look local_decl_at

  takes_decl_by : (t : Token) (ts : List Token) (p : Place) (kind : TokenKind) (a : Decl) (r : List Token) → Files.decl_by n decl p kind (t ∷ ts) ≡ answer a r → length r < suc (length ts)
  takes_decl_by t ts p (k.Reserved w.Namespace) a r is = takes_skip _ (local_namespace p) t ts a r is
  takes_decl_by t ts p (k.Reserved word) a r is = takes_reserved_decl n t ts p word a r is
  takes_decl_by t ts p (k.Word name) a r is = (takes_function_decl n p).some (t ∷ ts) a r is
  takes_decl_by t ts p _ a r is = absurd cc

  takes_one_decl : (ts : List Token) (a : Decl) (r : List Token) → Files.one n decl ts ≡ answer a r → length r < length ts
  unfolding Files.one look
  takes_one_decl [] a r is = absurd cc
  takes_one_decl (t ∷ ts) a r is = takes_decl_by t ts t.place t.kind a r is

-- what a declaration is read from
pub record DeclReads (n : ℕ) : Type 0 where
  pub local : Local (Files.decl n)
  pub takes : Takes (Files.decl n)

no_decl : DeclReads 0
unfolding Files.decl
no_decl = record { local = local_refuse; takes = takes_refuse }

more_decl : (n : ℕ) → DeclReads n → DeclReads (suc n)
unfolding Files.decl
more_decl n h = record { local = local_one_decl n (Files.decl n) h.local h.takes; takes = record { some = takes_one_decl n (Files.decl n) h.local h.takes } }

pub decl_reads : (n : ℕ) → DeclReads n
decl_reads zero = no_decl
decl_reads (suc n) = more_decl n (decl_reads n)

-- a refusal of a file rests on the tokens through the refused one alone
pub local_decls : (n : ℕ) → Local (Files.decls n)
unfolding Files.decls
local_decls n = local_while _ (Files.decl n) (decl_reads n).local (decl_reads n).takes []
