-- Which tokens spell a member, a declaration and a file: the grammar of docs/LANGUAGE.md, "Files", one constructor for
-- each alternative.
use Rattle.std.specs.Prelude.{ℕ, ◌≡◌, true, false, List, [], ◌∷◌, ◌++◌, Option, Some, None, codes}
use Rattle.cm_base.specs.declared.host.Flow.{Flow}
use Rattle.cm_base.specs.declared.host.Flow.TheVariants as w
use Rattle.cm_base.specs.declared.host.Kind.{Kind}
use Rattle.cm_base.specs.declared.host.Kind.TheVariants as n
use Rattle.cm_tree.specs.declared.token.Token.{Token}
use Rattle.cm_tree.specs.declared.token.TokenKind.TheVariants as k
use Rattle.cm_tree.specs.declared.sign.Sign.TheVariants as s
use Rattle.cm_tree.specs.declared.reserved.Reserved.{Reserved}
use Rattle.cm_tree.specs.declared.reserved.Reserved.TheVariants as r
use Rattle.cm_tree.specs.declared.path.Path.{Path}
use Rattle.cm_tree.specs.declared.path.Word.{Word}
use Rattle.cm_tree.specs.declared.expr.Expr.{Expr}
use Rattle.cm_tree.specs.declared.type_expr.TypeExpr.{TypeExpr}
use Rattle.cm_tree.specs.declared.type_expr.Typed.{Typed}
use Rattle.cm_tree.specs.declared.type_expr.Arg.{Arg}
use Rattle.cm_tree.specs.declared.simple.Init.{Init}
use Rattle.cm_tree.specs.declared.simple.Var.{Var}
use Rattle.cm_tree.specs.declared.stmt.Assert.{Assert}
use Rattle.cm_tree.specs.declared.stmt.Block.{Block}
use Rattle.cm_tree.specs.declared.shared.Fields.{Fields}
use Rattle.cm_tree.specs.declared.shared.Shared.{Shared}
use Rattle.cm_tree.specs.declared.shared.Shared.TheVariants as h
use Rattle.cm_tree.specs.declared.shared.Function.{Function}
use Rattle.cm_tree.specs.declared.member.KeyValue.TheVariants as kv
use Rattle.cm_tree.specs.declared.member.Key.{Key}
use Rattle.cm_tree.specs.declared.member.EndName.{EndName}
use Rattle.cm_tree.specs.declared.member.End.{End}
use Rattle.cm_tree.specs.declared.member.Node.{Node}
use Rattle.cm_tree.specs.declared.member.Point.{Point}
use Rattle.cm_tree.specs.declared.member.Link.{Link}
use Rattle.cm_tree.specs.declared.member.Member.{Member}
use Rattle.cm_tree.specs.declared.member.Member.TheVariants as m
use Rattle.cm_tree.specs.declared.decl.Param.{Param}
use Rattle.cm_tree.specs.declared.decl.Param.TheVariants as q
use Rattle.cm_tree.specs.declared.decl.UnitDecl.{UnitDecl}
use Rattle.cm_tree.specs.declared.decl.Decl.{Decl}
use Rattle.cm_tree.specs.declared.decl.Decl.TheVariants as d
use Rattle.cm_tree.specs.declared.file.File.{File}
use Rattle.cm_tree.specs.Lists.{Every, Listed, MaybeListed}
use Rattle.cm_tree.specs.Spelling.{IsSign, IsReserved, IsWord, SpellsPath, SpellsExpr, SpellsType, SpellsArg}
use Rattle.cm_tree.specs.StmtSpelling.{SpellsWord, SpellsTyped, SpellsInit, SpellsVar, SpellsAssert, SpellsBlock}

-- the token is a name of this text
pub record IsText (text : List ℕ) (t : Token) : Type 0 where
  pub kind : t.kind ≡ k.Word text

-- ---- annotations

-- key = NAME [ ":" ( expr | STRING ) ]
pub data SpellsKey : Key → List Token → Type 0 where
  bare : (w : Word) (t : Token) → IsWord w t → SpellsKey (record { name = w; value = None }) (t ∷ [])
  value : (w : Word) (a : Expr) (t colon : Token) (others : List Token)
      → IsWord w t → IsSign s.Colon colon → SpellsExpr a others → SpellsKey (record { name = w; value = Some (kv.Value a) }) (t ∷ colon ∷ others)
  text : (w : Word) (b : List ℕ) (t colon v : Token)
      → IsWord w t → IsSign s.Colon colon → v.kind ≡ k.Text b → SpellsKey (record { name = w; value = Some (kv.Text v.place b) }) (t ∷ colon ∷ v ∷ [])

-- [ annot ], annot = "[" "[" key { "," key } "]" "]"
pub data SpellsKeys : List Key → List Token → Type 0 where
  none : SpellsKeys [] []
  some : (keys : List Key) (o u c v : Token) (inner : List Token)
      → IsSign s.LeftBracket o → IsSign s.LeftBracket u → Listed SpellsKey keys inner → IsSign s.RightBracket c → IsSign s.RightBracket v
      → SpellsKeys keys (o ∷ u ∷ (inner ++ c ∷ v ∷ []))

-- ---- endpoints

pub data IsFlow : Flow → Token → Type 0 where
  input : (t : Token) → IsReserved r.Input t → IsFlow w.Input t
  output : (t : Token) → IsReserved r.Output t → IsFlow w.Output t

pub data IsKind : Kind → Token → Type 0 where
  stream : (t : Token) → IsText (codes "stream") t → IsKind n.Stream t
  value : (t : Token) → IsText (codes "value") t → IsKind n.Value t
  event : (t : Token) → IsReserved r.Event t → IsKind n.Event t

-- NAME [ annot ]
pub data SpellsEndName : EndName → List Token → Type 0 where
  name : (w : Word) (keys : List Key) (t : Token) (others : List Token)
      → IsWord w t → SpellsKeys keys others → SpellsEndName (record { name = w; keys = keys }) (t ∷ others)

-- end = ( "stream" | "value" | "event" ) type NAME [ annot ] { "," NAME [ annot ] } ";"
pub data SpellsEnd : End → List Token → Type 0 where
  end : (kind : Kind) (ty : TypeExpr) (names : List EndName) (t c : Token) (front others : List Token)
      → IsKind kind t → SpellsType ty front → Listed SpellsEndName names others → IsSign s.Semicolon c
      → SpellsEnd (record { place = t.place; kind = kind; ty = ty; names = names }) (t ∷ (front ++ (others ++ c ∷ [])))

-- end | "{" { end } "}"
pub data SpellsEnds : List End → List Token → Type 0 where
  one : (a : End) (tokens : List Token) → SpellsEnd a tokens → SpellsEnds (a ∷ []) tokens
  several : (all : List End) (o c : Token) (inner : List Token)
      → IsSign s.LeftBrace o → Every SpellsEnd all inner → IsSign s.RightBrace c → SpellsEnds all (o ∷ (inner ++ c ∷ []))

-- ---- declarations of every place

-- type NAME { "," NAME } ";"
pub data SpellsFields : Fields → List Token → Type 0 where
  fields : (ty : TypeExpr) (names : List Word) (c : Token) (front others : List Token)
      → SpellsType ty front → Listed SpellsWord names others → IsSign s.Semicolon c
      → SpellsFields (record { ty = ty; names = names }) (front ++ (others ++ c ∷ []))

-- shared = "struct" NAME "{" { fields } "}" | "using" NAME "=" type ";" | "let" inits ";" | assert
pub data SpellsShared : Shared → List Token → Type 0 where
  structure : (x : Word) (all : List Fields) (t v o c : Token) (inner : List Token)
      → IsReserved r.Struct t → IsWord x v → IsSign s.LeftBrace o → Every SpellsFields all inner → IsSign s.RightBrace c
      → SpellsShared (h.Struct t.place x all) (t ∷ v ∷ o ∷ (inner ++ c ∷ []))
  alias : (x : Word) (ty : TypeExpr) (t v equals c : Token) (inner : List Token)
      → IsReserved r.Using t → IsWord x v → IsSign s.Assign equals → SpellsType ty inner → IsSign s.Semicolon c
      → SpellsShared (h.Using t.place x ty) (t ∷ v ∷ equals ∷ (inner ++ c ∷ []))
  constants : (all : List Init) (t c : Token) (inner : List Token)
      → IsReserved r.Let t → Listed SpellsInit all inner → IsSign s.Semicolon c → SpellsShared (h.Let t.place all) (t ∷ (inner ++ c ∷ []))
  asserted : (a : Assert) (tokens : List Token) → SpellsAssert a tokens → SpellsShared (h.Assert a) tokens

-- function = ( "void" | type ) NAME "(" [ type NAME { "," type NAME } ] ")" block
pub data SpellsFunction : Function → List Token → Type 0 where
  plain : (x : Word) (params : List Typed) (b : Block) (t v o c : Token) (inner body : List Token)
      → IsReserved r.Void t → IsWord x v → IsSign s.LeftParenthesis o → MaybeListed SpellsTyped params inner → IsSign s.RightParenthesis c → SpellsBlock b body
      → SpellsFunction (record { place = t.place; result = None; name = x; params = params; body = b }) (t ∷ v ∷ o ∷ (inner ++ c ∷ body))
  giving : (ty : TypeExpr) (x : Word) (params : List Typed) (b : Block) (t v o c : Token) (front inner body : List Token)
      → SpellsType ty (t ∷ front) → IsWord x v → IsSign s.LeftParenthesis o → MaybeListed SpellsTyped params inner → IsSign s.RightParenthesis c → SpellsBlock b body
      → SpellsFunction (record { place = t.place; result = Some ty; name = x; params = params; body = b }) (t ∷ (front ++ v ∷ o ∷ (inner ++ c ∷ body)))

-- ---- nodes and connections

-- [ "(" arg { "," arg } ")" ]
pub data SpellsNodeArgs : List Arg → List Token → Type 0 where
  none : SpellsNodeArgs [] []
  some : (args : List Arg) (o c : Token) (inner : List Token)
      → IsSign s.LeftParenthesis o → Listed SpellsArg args inner → IsSign s.RightParenthesis c → SpellsNodeArgs args (o ∷ (inner ++ c ∷ []))

-- [ "[" expr "]" ]
pub data SpellsBracketed : Option Expr → List Token → Type 0 where
  none : SpellsBracketed None []
  some : (a : Expr) (o c : Token) (inner : List Token)
      → IsSign s.LeftBracket o → SpellsExpr a inner → IsSign s.RightBracket c → SpellsBracketed (Some a) (o ∷ (inner ++ c ∷ []))

-- [ "*" expr ]
pub data SpellsFactor : Option Expr → List Token → Type 0 where
  none : SpellsFactor None []
  some : (a : Expr) (star : Token) (others : List Token)
      → IsSign s.Star star → SpellsExpr a others → SpellsFactor (Some a) (star ∷ others)

-- one = NAME "=" path [ "(" arg { "," arg } ")" ] [ "[" expr "]" ] [ "*" expr ]
pub data SpellsNode : Node → List Token → Type 0 where
  node : (x : Word) (p : Path) (args : List Arg) (count factor : Option Expr) (t equals : Token) (front inner index others : List Token)
      → IsWord x t → IsSign s.Assign equals → SpellsPath p front → SpellsNodeArgs args inner → SpellsBracketed count index → SpellsFactor factor others
      → SpellsNode (record { name = x; path = p; args = args; count = count; factor = factor }) (t ∷ equals ∷ (front ++ (inner ++ (index ++ others))))

-- [ "." NAME ]
pub data SpellsDotted : Option Word → List Token → Type 0 where
  none : SpellsDotted None []
  some : (x : Word) (dot t : Token) → IsSign s.Dot dot → IsWord x t → SpellsDotted (Some x) (dot ∷ t ∷ [])

-- point = NAME [ "[" expr "]" ] [ "." NAME ]
pub data SpellsPoint : Point → List Token → Type 0 where
  point : (x : Word) (a : Option Expr) (y : Option Word) (t : Token) (index others : List Token)
      → IsWord x t → SpellsBracketed a index → SpellsDotted y others → SpellsPoint (record { name = x; index = a; end = y }) (t ∷ (index ++ others))

-- [ "[" expr "]" "->" ]
pub data SpellsDelay : Option Expr → List Token → Type 0 where
  none : SpellsDelay None []
  some : (a : Expr) (o c arrow : Token) (inner : List Token)
      → IsSign s.LeftBracket o → SpellsExpr a inner → IsSign s.RightBracket c → IsSign s.Arrow arrow → SpellsDelay (Some a) (o ∷ (inner ++ c ∷ arrow ∷ []))

-- link = [ "[" "latch" "]" ] point "->" [ "[" expr "]" "->" ] point ";"
pub data SpellsLink : Link → List Token → Type 0 where
  plain : (from to : Point) (delay : Option Expr) (arrow c : Token) (front middle back : List Token)
      → SpellsPoint from front → IsSign s.Arrow arrow → SpellsDelay delay middle → SpellsPoint to back → IsSign s.Semicolon c
      → SpellsLink (record { place = from.name.place; latch = false; from = from; delay = delay; to = to }) (front ++ arrow ∷ (middle ++ (back ++ c ∷ [])))
  latched : (from to : Point) (delay : Option Expr) (o t u arrow c : Token) (front middle back : List Token)
      → IsSign s.LeftBracket o → IsText (codes "latch") t → IsSign s.RightBracket u
      → SpellsPoint from front → IsSign s.Arrow arrow → SpellsDelay delay middle → SpellsPoint to back → IsSign s.Semicolon c
      → SpellsLink (record { place = o.place; latch = true; from = from; delay = delay; to = to }) (o ∷ t ∷ u ∷ (front ++ arrow ∷ (middle ++ (back ++ c ∷ []))))

-- link | "{" { link } "}"
pub data SpellsLinks : List Link → List Token → Type 0 where
  one : (a : Link) (tokens : List Token) → SpellsLink a tokens → SpellsLinks (a ∷ []) tokens
  several : (all : List Link) (o c : Token) (inner : List Token)
      → IsSign s.LeftBrace o → Every SpellsLink all inner → IsSign s.RightBrace c → SpellsLinks all (o ∷ (inner ++ c ∷ []))

-- ---- members

-- ends | shared
pub data SpellsItem : Member → List Token → Type 0 where
  ends : (f : Flow) (all : List End) (t : Token) (others : List Token)
      → IsFlow f t → SpellsEnds all others → SpellsItem (m.Ends t.place f all) (t ∷ others)
  shared : (a : Shared) (tokens : List Token) → SpellsShared a tokens → SpellsItem (m.Shared a) tokens

-- p_item = ends | shared | function | handler | state | latency
pub data SpellsProcessorItem : Member → List Token → Type 0 where
  item : (a : Member) (tokens : List Token) → SpellsItem a tokens → SpellsProcessorItem a tokens
  function : (a : Function) (tokens : List Token) → SpellsFunction a tokens → SpellsProcessorItem (m.Function a) tokens
  handler : (x : Word) (a : Typed) (b : Block) (t v o c : Token) (inner body : List Token)
      → IsReserved r.Event t → IsWord x v → IsSign s.LeftParenthesis o → SpellsTyped a inner → IsSign s.RightParenthesis c → SpellsBlock b body
      → SpellsProcessorItem (m.Handler t.place x a b) (t ∷ v ∷ o ∷ (inner ++ c ∷ body))
  variables : (all : List Init) (t c : Token) (inner : List Token)
      → IsReserved r.Var t → Listed SpellsInit all inner → IsSign s.Semicolon c → SpellsProcessorItem (m.Var t.place all) (t ∷ (inner ++ c ∷ []))
  state : (ty : TypeExpr) (all : List Var) (c : Token) (front others : List Token)
      → SpellsType ty front → Listed SpellsVar all others → IsSign s.Semicolon c → SpellsProcessorItem (m.State ty all) (front ++ (others ++ c ∷ []))
  latency : (a : Expr) (t dot v equals c : Token) (inner : List Token)
      → IsReserved r.Processor t → IsSign s.Dot dot → IsText (codes "latency") v → IsSign s.Assign equals → SpellsExpr a inner → IsSign s.Semicolon c
      → SpellsProcessorItem (m.Latency t.place a) (t ∷ dot ∷ v ∷ equals ∷ (inner ++ c ∷ []))

-- g_item = ends | shared | node | "connection" ( link | "{" { link } "}" )
pub data SpellsGraphItem : Member → List Token → Type 0 where
  item : (a : Member) (tokens : List Token) → SpellsItem a tokens → SpellsGraphItem a tokens
  nodes : (all : List Node) (t c : Token) (inner : List Token)
      → IsReserved r.Node t → Listed SpellsNode all inner → IsSign s.Semicolon c → SpellsGraphItem (m.Nodes t.place all) (t ∷ (inner ++ c ∷ []))
  connection : (all : List Link) (t : Token) (others : List Token)
      → IsReserved r.Connection t → SpellsLinks all others → SpellsGraphItem (m.Connection t.place all) (t ∷ others)

-- ---- declarations

-- param = "using" NAME | type NAME
pub data SpellsParam : Param → List Token → Type 0 where
  type : (x : Word) (t v : Token) → IsReserved r.Using t → IsWord x v → SpellsParam (q.Type t.place x) (t ∷ v ∷ [])
  value : (ty : TypeExpr) (x : Word) (v : Token) (front : List Token)
      → SpellsType ty front → IsWord x v → SpellsParam (q.Value ty x) (front ++ v ∷ [])

-- [ params ], params = "(" param { "," param } ")"
pub data SpellsParams : List Param → List Token → Type 0 where
  none : SpellsParams [] []
  some : (params : List Param) (o c : Token) (inner : List Token)
      → IsSign s.LeftParenthesis o → Listed SpellsParam params inner → IsSign s.RightParenthesis c → SpellsParams params (o ∷ (inner ++ c ∷ []))

-- proc and graph: WORD NAME [ params ] [ annot ] "{" { item } "}"
pub data SpellsUnit (first : Reserved) (SpellsMember : Member → List Token → Type 0) : UnitDecl → List Token → Type 0 where
  «unit» : (x : Word) (params : List Param) (keys : List Key) (members : List Member) (t v o c : Token) (front middle inner : List Token)
      → IsReserved first t → IsWord x v → SpellsParams params front → SpellsKeys keys middle → IsSign s.LeftBrace o
      → Every SpellsMember members inner → IsSign s.RightBrace c
      → SpellsUnit first SpellsMember (record { place = t.place; name = x; params = params; keys = keys; members = members })
      (t ∷ v ∷ (front ++ (middle ++ o ∷ (inner ++ c ∷ []))))

mutual
  -- decl = "namespace" path "{" { decl } "}" | proc | graph | shared | function
  pub data SpellsDecl : Decl → List Token → Type 0 where
    namespace : (x : Path) (all : List Decl) (t o c : Token) (front inner : List Token)
        → IsReserved r.Namespace t → SpellsPath x front → IsSign s.LeftBrace o → SpellsDecls all inner → IsSign s.RightBrace c
        → SpellsDecl (d.Namespace t.place x all) (t ∷ (front ++ o ∷ (inner ++ c ∷ [])))
    processor : (a : UnitDecl) (tokens : List Token) → SpellsUnit r.Processor SpellsProcessorItem a tokens → SpellsDecl (d.Processor a) tokens
    graph : (a : UnitDecl) (tokens : List Token) → SpellsUnit r.Graph SpellsGraphItem a tokens → SpellsDecl (d.Graph a) tokens
    shared : (a : Shared) (tokens : List Token) → SpellsShared a tokens → SpellsDecl (d.Shared a) tokens
    function : (a : Function) (tokens : List Token) → SpellsFunction a tokens → SpellsDecl (d.Function a) tokens

  -- { decl }
  pub data SpellsDecls : List Decl → List Token → Type 0 where
    no_decls : SpellsDecls [] []
    decls : (a : Decl) (all : List Decl) (first others : List Token)
        → SpellsDecl a first → SpellsDecls all others → SpellsDecls (a ∷ all) (first ++ others)

-- file = { decl }
pub data SpellsFile : File → List Token → Type 0 where
  file : (all : List Decl) (tokens : List Token) → SpellsDecls all tokens → SpellsFile (record { decls = all }) tokens
