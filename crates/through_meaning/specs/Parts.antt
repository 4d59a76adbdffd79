-- A patch of the form, put together from its names and places.
use Rattle.std.specs.Prelude.{[], ◌∷◌, None, codes}
use Rattle.cm_base.specs.declared.host.Flow.{Flow}
use Rattle.cm_base.specs.declared.host.Flow.TheVariants.{Input, Output}
use Rattle.cm_base.specs.declared.host.Kind.TheVariants.{Stream}
use Rattle.cm_base.specs.declared.host.Scalar.TheVariants.{Int32}
use Rattle.cm_base.specs.declared.host.HostEnd.{HostEnd}
use Rattle.cm_base.specs.declared.place.Place.{Place}
use Rattle.cm_tree.specs.declared.path.Word.{Word}
use Rattle.cm_tree.specs.declared.expr.Expr.TheVariants as e
use Rattle.cm_tree.specs.declared.expr.Base.TheVariants as b
use Rattle.cm_tree.specs.declared.type_expr.TypeExpr.{TypeExpr}
use Rattle.cm_tree.specs.declared.type_expr.TypeExpr.TheVariants as y
use Rattle.cm_tree.specs.declared.stmt.Stmt.{Stmt}
use Rattle.cm_tree.specs.declared.stmt.Stmt.TheVariants as x
use Rattle.cm_tree.specs.declared.shared.Function.{Function}
use Rattle.cm_tree.specs.declared.member.Key.{Key}
use Rattle.cm_tree.specs.declared.member.End.{End}
use Rattle.cm_tree.specs.declared.member.Member.{Member}
use Rattle.cm_tree.specs.declared.member.Member.TheVariants as m
use Rattle.cm_tree.specs.declared.decl.UnitDecl.{UnitDecl}
use Rattle.cm_tree.specs.Pieces.{Text}

-- the places of an endpoint's declaration
pub record StreamPlaces : Type 0 where
  pub member : Place
  pub end : Place
  pub int : Place
  pub name : Place

-- the places of `main`
pub record MainPlaces : Type 0 where
  pub function : Place
  pub name : Place
  pub body : Place
  pub loop : Place
  pub block : Place
  pub to : Place
  pub from : Place
  pub advance : Place

pub record Parts : Type 0 where
  pub place : Place
  pub name : Word
  pub key : Place
  pub input : StreamPlaces
  pub output : StreamPlaces
  pub main : MainPlaces

abbrev pub word : Place → Text → Word
word place text = record { place = place; text = text }

abbrev pub int_at : Place → TypeExpr
int_at place = y.Base (b.Int place) []

-- `[[main]]`
abbrev pub main_mark : Place → Key
main_mark place = record { name = word place (codes "main"); value = None }

-- `stream int NAME;`
abbrev pub end_at : StreamPlaces → Text → End
end_at p name = record { place = p.end; kind = Stream; ty = int_at p.int; names = record { name = word p.name name; keys = [] } ∷ [] }

abbrev pub stream_at : Flow → StreamPlaces → Text → Member
stream_at flow p name = m.Ends p.member flow (end_at p name ∷ [])

-- `OUTPUT <- INPUT; advance();`
abbrev pub pass_at : MainPlaces → (input output : Text) → Stmt
pass_at p input output = x.Block p.block (x.Write (word p.to output) (e.Name (record { place = p.from; names = input ∷ [] })) ∷ x.Advance p.advance ∷ [])

abbrev pub main_at : MainPlaces → (input output : Text) → Function
main_at p input output =
    record {
      place = p.function;
      result = None;
      name = word p.name (codes "main");
      params = [];
      body = record { place = p.body; stmts = x.Loop p.loop None (pass_at p input output) ∷ [] };
    }

abbrev pub unit_at : Parts → (input output : Text) → UnitDecl
unit_at p input output =
    record {
      place = p.place;
      name = p.name;
      params = [];
      keys = main_mark p.key ∷ [];
      members = stream_at Input p.input input ∷ stream_at Output p.output output ∷ m.Function (main_at p.main input output) ∷ [];
    }

-- a stream endpoint of the host with one int32
abbrev pub host_stream : Flow → Text → HostEnd
host_stream flow name = record { flow = flow; kind = Stream; name = name; shape = Int32 ∷ []; parameter = None }
