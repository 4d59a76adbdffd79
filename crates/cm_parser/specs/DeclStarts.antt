-- What members and declarations begin with, and what that leads to.
use Rattle.std.specs.Prelude.{ℕ, ◌-◌, Option, Some, None}
use Rattle.cm_base.specs.declared.place.Place.{Place}
use Rattle.cm_base.specs.declared.host.Flow.TheVariants as flow
use Rattle.cm_tree.specs.declared.token.TokenKind.{TokenKind}
use Rattle.cm_tree.specs.declared.token.TokenKind.TheVariants as k
use Rattle.cm_tree.specs.declared.reserved.Reserved.TheVariants as w
use Rattle.cm_tree.specs.declared.path.Word.{Word}
use Rattle.cm_tree.specs.declared.type_expr.TypeExpr.{TypeExpr}
use Rattle.cm_tree.specs.declared.shared.Shared.{Shared}
use Rattle.cm_tree.specs.declared.member.Member.{Member}
use Rattle.cm_tree.specs.declared.member.Member.TheVariants as member
use Rattle.cm_tree.specs.declared.decl.Decl.{Decl}
use Rattle.cm_tree.specs.declared.decl.Decl.TheVariants as d
use Rattle.token_reader.specs.Parsers.{Parser, ◌>>=◌, ◌>>◌, pure, refuse, skip}
use Rattle.file_grammar.specs.Simples.{vars_of}
use Rattle.file_grammar.specs.Stmts.{semicolon}
use Rattle.file_grammar.specs.Members as members
use Rattle.file_grammar.specs.Files as files
use Rattle.cm_parser.specs.declared.decl_starts.SharedStart.{SharedStart}
use Rattle.cm_parser.specs.declared.decl_starts.SharedStart.TheVariants as h
use Rattle.cm_parser.specs.declared.decl_starts.ProcessorStart.{ProcessorStart}
use Rattle.cm_parser.specs.declared.decl_starts.ProcessorStart.TheVariants as p
use Rattle.cm_parser.specs.declared.decl_starts.GraphStart.{GraphStart}
use Rattle.cm_parser.specs.declared.decl_starts.GraphStart.TheVariants as g
use Rattle.cm_parser.specs.declared.decl_starts.DeclStart.{DeclStart}
use Rattle.cm_parser.specs.declared.decl_starts.DeclStart.TheVariants as b
use Rattle.cm_parser.specs.declared.decl_starts.UnitKind.{UnitKind}
use Rattle.cm_parser.specs.declared.decl_starts.UnitKind.TheVariants as u

-- ---- declarations of every place

abbrev pub shared_from : ℕ → Place → SharedStart → Parser Shared
shared_from n at h.Struct = members.structure n at
shared_from n at h.Using = members.alias n at
shared_from n at h.Let = members.constants n at
shared_from n at h.Assert = members.asserted n at

-- ---- members of processors

-- state, from what follows its first name on
abbrev pub state_of : ℕ → TypeExpr → Word → Parser Member
state_of n ty name = vars_of n name >>= (λ all. semicolon (member.State ty all))

abbrev pub processor_start : TokenKind → Option ProcessorStart
processor_start (k.Reserved w.Input) = Some (p.Ends flow.Input)
processor_start (k.Reserved w.Output) = Some (p.Ends flow.Output)
processor_start (k.Reserved w.Struct) = Some (p.Shared h.Struct)
processor_start (k.Reserved w.Using) = Some (p.Shared h.Using)
processor_start (k.Reserved w.Let) = Some (p.Shared h.Let)
processor_start (k.Reserved w.StaticAssert) = Some (p.Shared h.Assert)
processor_start (k.Reserved w.Event) = Some p.Handler
processor_start (k.Reserved w.Var) = Some p.Var
processor_start (k.Reserved w.Processor) = Some p.Latency
processor_start (k.Reserved w.Void) = Some p.Void
processor_start (k.Reserved w.Bool) = Some p.Type
processor_start (k.Reserved w.Int) = Some p.Type
processor_start (k.Reserved w.Int32) = Some p.Type
processor_start (k.Reserved w.Int64) = Some p.Type
processor_start (k.Reserved w.Wrap) = Some p.Type
processor_start (k.Reserved w.Clamp) = Some p.Type
processor_start (k.Word name) = Some p.Type
processor_start _ = None

abbrev pub processor_from : ℕ → Place → Option ProcessorStart → Parser Member
processor_from n at None = refuse
processor_from n at (Some (p.Ends way)) = skip >> members.ends n at way
processor_from n at (Some (p.Shared a)) = members.shared_member (shared_from n at a)
processor_from n at (Some p.Handler) = skip >> members.handler n at
processor_from n at (Some p.Var) = skip >> members.variables n at
processor_from n at (Some p.Latency) = skip >> members.latency n at
processor_from n at (Some p.Void) = skip >> members.void_function n at >>= (λ f. pure (member.Function f))
processor_from n at (Some p.Type) = members.typed_member n at

-- ---- members of graphs

abbrev pub graph_start : TokenKind → Option GraphStart
graph_start (k.Reserved w.Input) = Some (g.Ends flow.Input)
graph_start (k.Reserved w.Output) = Some (g.Ends flow.Output)
graph_start (k.Reserved w.Struct) = Some (g.Shared h.Struct)
graph_start (k.Reserved w.Using) = Some (g.Shared h.Using)
graph_start (k.Reserved w.Let) = Some (g.Shared h.Let)
graph_start (k.Reserved w.StaticAssert) = Some (g.Shared h.Assert)
graph_start (k.Reserved w.Node) = Some g.Nodes
graph_start (k.Reserved w.Connection) = Some g.Connection
graph_start _ = None

abbrev pub graph_from : ℕ → Place → Option GraphStart → Parser Member
graph_from n at None = refuse
graph_from n at (Some (g.Ends way)) = skip >> members.ends n at way
graph_from n at (Some (g.Shared a)) = members.shared_member (shared_from n at a)
graph_from n at (Some g.Nodes) = skip >> members.nodes n at
graph_from n at (Some g.Connection) = skip >> members.connection n at

-- ---- processors and graphs

-- a member of one, of a height of at most n
abbrev pub member_of : UnitKind → ℕ → Parser Member
member_of u.Processor n = files.below n (members.processor_member (n - 1))
member_of u.Graph n = files.below n (members.graph_member (n - 1))

-- a processor or a graph, from its name on
abbrev pub unit_decl : UnitKind → ℕ → Place → Parser Decl
unit_decl u.Processor n at = files.processor n at >>= (λ a. pure (d.Processor a))
unit_decl u.Graph n at = files.graph n at >>= (λ a. pure (d.Graph a))

-- ---- declarations

abbrev pub decl_start : TokenKind → Option DeclStart
decl_start (k.Reserved w.Namespace) = Some b.Namespace
decl_start (k.Reserved w.Processor) = Some (b.Unit u.Processor)
decl_start (k.Reserved w.Graph) = Some (b.Unit u.Graph)
decl_start (k.Reserved w.Struct) = Some (b.Shared h.Struct)
decl_start (k.Reserved w.Using) = Some (b.Shared h.Using)
decl_start (k.Reserved w.Let) = Some (b.Shared h.Let)
decl_start (k.Reserved w.StaticAssert) = Some (b.Shared h.Assert)
decl_start (k.Reserved w.Void) = Some b.Void
decl_start (k.Reserved w.Bool) = Some b.Type
decl_start (k.Reserved w.Int) = Some b.Type
decl_start (k.Reserved w.Int32) = Some b.Type
decl_start (k.Reserved w.Int64) = Some b.Type
decl_start (k.Reserved w.Wrap) = Some b.Type
decl_start (k.Reserved w.Clamp) = Some b.Type
decl_start (k.Word name) = Some b.Type
decl_start _ = None

-- declarations that hold others of a height of at most n
module _ (n : ℕ) (decl : Parser Decl) where
  abbrev pub decl_from : Place → Option DeclStart → Parser Decl
  decl_from at None = refuse
  decl_from at (Some b.Namespace) = skip >> files.namespace_of n decl at
  decl_from at (Some (b.Unit kind)) = skip >> unit_decl kind n at
  decl_from at (Some (b.Shared a)) = skip >> shared_from n at a >>= (λ x. pure (d.Shared x))
  decl_from at (Some b.Void) = skip >> members.void_function n at >>= (λ f. pure (d.Function f))
  decl_from at (Some b.Type) = files.typed_function n at >>= (λ f. pure (d.Function f))
