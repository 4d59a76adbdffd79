-- The form of patch that is compiled so far, over the trees of its files: docs/LANGUAGE.md, "What is compiled so far".
use Rattle.std.specs.Prelude.{◌≡◌, ◌≢◌, List, [], ◌∷◌, None, codes, flat_map}
use Rattle.cm_base.specs.declared.host.Flow.{Flow}
use Rattle.cm_base.specs.declared.host.Flow.TheVariants.{Input, Output}
use Rattle.cm_base.specs.declared.host.Kind.TheVariants.{Stream}
use Rattle.cm_base.specs.declared.place.Place.{Place}
use Rattle.cm_tree.specs.declared.path.Path.{Path}
use Rattle.cm_tree.specs.declared.path.Word.{Word}
use Rattle.cm_tree.specs.declared.expr.Expr.TheVariants as e
use Rattle.cm_tree.specs.declared.expr.Base.TheVariants as b
use Rattle.cm_tree.specs.declared.type_expr.TypeExpr.{TypeExpr}
use Rattle.cm_tree.specs.declared.type_expr.TypeExpr.TheVariants as y
use Rattle.cm_tree.specs.declared.stmt.Stmt.{Stmt}
use Rattle.cm_tree.specs.declared.stmt.Stmt.TheVariants as x
use Rattle.cm_tree.specs.declared.shared.Function.{Function}
use Rattle.cm_tree.specs.declared.member.Key.{Key}
use Rattle.cm_tree.specs.declared.member.EndName.{EndName}
use Rattle.cm_tree.specs.declared.member.End.{End}
use Rattle.cm_tree.specs.declared.member.Member.{Member}
use Rattle.cm_tree.specs.declared.member.Member.TheVariants as m
use Rattle.cm_tree.specs.declared.decl.UnitDecl.{UnitDecl}
use Rattle.cm_tree.specs.declared.decl.Decl.{Decl}
use Rattle.cm_tree.specs.declared.decl.Decl.TheVariants as d
use Rattle.cm_tree.specs.declared.file.File.{File}
use Rattle.cm_tree.specs.Pieces.{Text}

-- `int`
pub record IsInt (ty : TypeExpr) : Type 0 where
  pub place : Place
  pub is : ty ≡ y.Base (b.Int place) []

-- `[[main]]`
pub record IsMainMark (keys : List Key) : Type 0 where
  pub key : Key
  pub is : keys ≡ key ∷ []
  pub name : key.name.text ≡ codes "main"
  pub bare : key.value ≡ None

-- `stream int NAME;`
pub record IsStreamEnd (name : Text) (end : End) : Type 0 where
  pub end_name : EndName
  pub kind : end.kind ≡ Stream
  pub is_int : IsInt end.ty
  pub is : end.names ≡ end_name ∷ []
  pub named : end_name.name.text ≡ name
  pub bare : end_name.keys ≡ []

-- `input stream int NAME;` or `output stream int NAME;`
pub record IsStream (flow : Flow) (name : Text) (member : Member) : Type 0 where
  pub place : Place
  pub end : End
  pub is : member ≡ m.Ends place flow (end ∷ [])
  pub stream : IsStreamEnd name end

-- `loop { OUTPUT <- INPUT; advance(); }`
pub record IsPass (input output : Text) (stmts : List Stmt) : Type 0 where
  pub loop : Place
  pub block : Place
  pub advance : Place
  pub to : Word
  pub from : Path
  pub is : stmts ≡ x.Loop loop None (x.Block block (x.Write to (e.Name from) ∷ x.Advance advance ∷ [])) ∷ []
  pub written : to.text ≡ output
  pub read : from.names ≡ input ∷ []

-- `void main() { loop { OUTPUT <- INPUT; advance(); } }`
pub record IsMain (input output : Text) (member : Member) : Type 0 where
  pub function : Function
  pub is : member ≡ m.Function function
  pub no_result : function.result ≡ None
  pub name : function.name.text ≡ codes "main"
  pub no_params : function.params ≡ []
  pub pass : IsPass input output function.body.stmts

-- `processor NAME [[main]] { input stream int INPUT; output stream int OUTPUT; void main() { .. } }`
pub record IsThrough (name input output : Text) (unit_decl : UnitDecl) : Type 0 where
  pub first : Member
  pub second : Member
  pub third : Member
  pub named : unit_decl.name.text ≡ name
  pub no_params : unit_decl.params ≡ []
  pub mark : IsMainMark unit_decl.keys
  pub is : unit_decl.members ≡ first ∷ second ∷ third ∷ []
  pub input_end : IsStream Input input first
  pub output_end : IsStream Output output second
  pub main : IsMain input output third

-- three names, none of them another or `main`
pub record AreNames (processor input output : Text) : Type 0 where
  pub processor_input : processor ≢ input
  pub processor_output : processor ≢ output
  pub input_output : input ≢ output
  pub processor_main : processor ≢ codes "main"
  pub input_main : input ≢ codes "main"
  pub output_main : output ≢ codes "main"

-- the declarations of all files, in their order
abbrev pub decls_of : List File → List Decl
decls_of files = flat_map (λ (file : File). file.decls) files

-- all files together are one processor of the form, with these names
pub record HaveForm (files : List File) (processor input output : Text) : Type 0 where
  pub unit_decl : UnitDecl
  pub is : decls_of files ≡ d.Processor unit_decl ∷ []
  pub through : IsThrough processor input output unit_decl
  pub names : AreNames processor input output
