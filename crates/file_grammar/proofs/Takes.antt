-- Paths and types are read from one token or more.
use Rattle.std.proofs.Common.{ℕ, ◌≤◌, List, length, ap, length-append, arith}
use Rattle.cm_tree.specs.declared.token.Token.{Token}
use Rattle.cm_tree.specs.declared.path.Path.{Path}
use Rattle.cm_tree.specs.declared.expr.Base.{Base}
use Rattle.cm_tree.specs.declared.type_expr.TypeExpr.{TypeExpr}
use Rattle.cm_tree.specs.Spelling.{SpellsPath, SpellsBase, SpellsType}
use Rattle.cm_tree.specs.Spelling as g
use Rattle.token_reader.specs.Local.{Takes}
use Rattle.cm_parse_expr.specs.Reading.{path, type_expr}
use Rattle.cm_parse_expr.proofs.Sound.{path_sound}
use Rattle.cm_parse_expr.proofs.Types.{type_sound}

path_some : {q : Path} {u : List Token} → SpellsPath q u → 1 ≤ length u
path_some (g.path t n ns others is spelled) = omega arith

base_some : {b : Base} {u : List Token} → SpellsBase b u → 1 ≤ length u
base_some (g.bool t at) = omega arith
base_some (g.int t at) = omega arith
base_some (g.int32 t at) = omega arith
base_some (g.int64 t at) = omega arith
base_some (g.wrap a t o c inner at ato le sp atc) = omega arith
base_some (g.clamp a t o c inner at ato le sp atc) = omega arith

type_some : {ty : TypeExpr} {u : List Token} → SpellsType ty u → 1 ≤ length u
type_some (g.base x xs front others sb ss) = omega (arith, base_some sb, length-append front others)
type_some (g.named q xs front others sq ss) = omega (arith, path_some sq, length-append front others)

pub takes_path : Takes path
takes_path = record { some = λ ts q r is. let one = path_sound ts q r is in omega (arith, path_some one.spelled, ap length one.parts, length-append one.used r) }

pub takes_type : (n : ℕ) → Takes (type_expr n)
takes_type n = record { some = λ ts ty r is. let one = type_sound n ts ty r is in omega (arith, type_some one.spelled, ap length one.parts, length-append one.used r) }
