-- What the first token of a member or a declaration leads to.
use Rattle.std.proofs.Common.{◌≡◌, ℕ, zero, suc, ◌+◌, ◌-◌, List, Option, Some, None, Err, refl, ap, ◌∙◌, arith}
use Rattle.cm_base.specs.declared.place.Place.{Place}
use Rattle.cm_tree.specs.declared.token.Token.{Token}
use Rattle.cm_tree.specs.declared.token.TokenKind.{TokenKind}
use Rattle.cm_tree.specs.declared.token.TokenKind.TheVariants as k
use Rattle.cm_tree.specs.declared.reserved.Reserved.TheVariants as w
use Rattle.cm_tree.specs.declared.decl.Decl.{Decl}
use Rattle.token_reader.specs.Parsers.{Parser, look, skip, first}
use Rattle.file_grammar.specs.Members as members
use Rattle.file_grammar.specs.Files as files
use Rattle.cm_parser.specs.declared.decl_starts.ProcessorStart.{ProcessorStart}
use Rattle.cm_parser.specs.declared.decl_starts.GraphStart.{GraphStart}
use Rattle.cm_parser.specs.declared.decl_starts.DeclStart.{DeclStart}
use Rattle.token_reader.specs.Local.{Local, Takes}
use Rattle.file_grammar.proofs.FarDecls.{local_processor_member, takes_processor_member, local_graph_member, takes_graph_member, local_below, takes_below}
use Rattle.cm_parser.specs.declared.decl_starts.UnitKind.{UnitKind}
use Rattle.cm_parser.specs.declared.decl_starts.UnitKind.TheVariants as u
use Rattle.cm_parser.specs.DeclStarts.{member_of, processor_start, processor_from, graph_start, graph_from, decl_start, decl_from}

module _ (n : ℕ) where
  processor_by : (at : Place) (kind : TokenKind) (ts : List Token) → members.processor_member_by n at kind ts ≡ processor_from n at (processor_start kind) ts
  processor_by at (k.Reserved w.Input) ts = refl
  processor_by at (k.Reserved w.Output) ts = refl
  processor_by at (k.Reserved w.Struct) ts = refl
  processor_by at (k.Reserved w.Using) ts = refl
  processor_by at (k.Reserved w.Let) ts = refl
  processor_by at (k.Reserved w.StaticAssert) ts = refl
  processor_by at (k.Reserved w.Event) ts = refl
  processor_by at (k.Reserved w.Var) ts = refl
  processor_by at (k.Reserved w.Processor) ts = refl
  processor_by at (k.Reserved w.Void) ts = refl
  processor_by at (k.Reserved w.Bool) ts = refl
  processor_by at (k.Reserved w.Int) ts = refl
  processor_by at (k.Reserved w.Int32) ts = refl
  processor_by at (k.Reserved w.Int64) ts = refl
  processor_by at (k.Reserved w.Wrap) ts = refl
  processor_by at (k.Reserved w.Clamp) ts = refl
  processor_by at (k.Word name) ts = refl
  processor_by at _ ts = refl

  pub processor_none : (ts : List Token) → first ts ≡ None → members.processor_member n ts ≡ Err ts
  unfolding members.processor_member look
  processor_none ts none = ap (λ (o : Option Token). members.processor_member_at n o ts) none

  pub processor_starts : (ts : List Token) (t : Token) (start : Option ProcessorStart) → first ts ≡ Some t → processor_start t.kind ≡ start → members.processor_member n ts ≡ processor_from n t.place start ts
  unfolding members.processor_member look
  processor_starts ts t start head is =
      ap (λ (o : Option Token). members.processor_member_at n o ts) head ∙ processor_by t.place t.kind ts ∙ ap (λ (o : Option ProcessorStart). processor_from n t.place o ts) is

  graph_by : (at : Place) (kind : TokenKind) (ts : List Token) → members.graph_member_by n at kind ts ≡ graph_from n at (graph_start kind) ts
  graph_by at (k.Reserved w.Input) ts = refl
  graph_by at (k.Reserved w.Output) ts = refl
  graph_by at (k.Reserved w.Struct) ts = refl
  graph_by at (k.Reserved w.Using) ts = refl
  graph_by at (k.Reserved w.Let) ts = refl
  graph_by at (k.Reserved w.StaticAssert) ts = refl
  graph_by at (k.Reserved w.Node) ts = refl
  graph_by at (k.Reserved w.Connection) ts = refl
  graph_by at _ ts = refl

  pub graph_none : (ts : List Token) → first ts ≡ None → members.graph_member n ts ≡ Err ts
  unfolding members.graph_member look
  graph_none ts none = ap (λ (o : Option Token). members.graph_member_at n o ts) none

  pub graph_starts : (ts : List Token) (t : Token) (start : Option GraphStart) → first ts ≡ Some t → graph_start t.kind ≡ start → members.graph_member n ts ≡ graph_from n t.place start ts
  unfolding members.graph_member look
  graph_starts ts t start head is =
      ap (λ (o : Option Token). members.graph_member_at n o ts) head ∙ graph_by t.place t.kind ts ∙ ap (λ (o : Option GraphStart). graph_from n t.place o ts) is

  module _ (x : Parser Decl) where
    decl_by : (at : Place) (kind : TokenKind) (ts : List Token) → files.decl_by n x at kind ts ≡ decl_from n x at (decl_start kind) ts
    unfolding skip
    decl_by at (k.Reserved w.Namespace) ts = refl
    decl_by at (k.Reserved w.Processor) ts = refl
    decl_by at (k.Reserved w.Graph) ts = refl
    decl_by at (k.Reserved w.Struct) ts = refl
    decl_by at (k.Reserved w.Using) ts = refl
    decl_by at (k.Reserved w.Let) ts = refl
    decl_by at (k.Reserved w.StaticAssert) ts = refl
    decl_by at (k.Reserved w.Void) ts = refl
    decl_by at (k.Reserved w.Bool) ts = refl
    decl_by at (k.Reserved w.Int) ts = refl
    decl_by at (k.Reserved w.Int32) ts = refl
    decl_by at (k.Reserved w.Int64) ts = refl
    decl_by at (k.Reserved w.Wrap) ts = refl
    decl_by at (k.Reserved w.Clamp) ts = refl
    decl_by at (k.Reserved _) ts = refl
    decl_by at (k.Word name) ts = refl
    decl_by at _ ts = refl

    pub one_none : (ts : List Token) → first ts ≡ None → files.one n x ts ≡ Err ts
    unfolding files.one look
    one_none ts none = ap (λ (o : Option Token). files.decl_at n x o ts) none

    pub one_starts : (ts : List Token) (t : Token) (start : Option DeclStart) → first ts ≡ Some t → decl_start t.kind ≡ start → files.one n x ts ≡ decl_from n x t.place start ts
    unfolding files.one look
    one_starts ts t start head is =
        ap (λ (o : Option Token). files.decl_at n x o ts) head ∙ decl_by t.place t.kind ts ∙ ap (λ (o : Option DeclStart). decl_from n x t.place o ts) is

-- ---- members of processors and graphs

pub local_member : (kind : UnitKind) (n : ℕ) → Local (member_of kind n)
local_member u.Processor n = local_below n (local_processor_member (n - 1))
local_member u.Graph n = local_below n (local_graph_member (n - 1))

pub takes_member : (kind : UnitKind) (n : ℕ) → Takes (member_of kind n)
takes_member u.Processor n = takes_below n (takes_processor_member (n - 1))
takes_member u.Graph n = takes_below n (takes_graph_member (n - 1))

-- no declaration is no higher than 0
pub decl_none : (n : ℕ) (ts : List Token) → n ≡ 0 → files.decl n ts ≡ Err ts
unfolding files.decl
decl_none zero ts is = refl
decl_none (suc n) ts is = absurd (omega arith)

pub decl_at : (n m : ℕ) (ts : List Token) → n ≡ m + 1 → files.decl n ts ≡ files.one m (files.decl m) ts
unfolding files.decl
decl_at zero m ts is = absurd (omega arith)
decl_at (suc n) m ts is = let same : n ≡ m = omega arith in rw same refl
