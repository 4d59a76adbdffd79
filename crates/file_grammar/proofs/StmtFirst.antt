-- The first token of a statement.
use Rattle.std.proofs.Common.{◌≡◌, Bool, true, false, not, List, [], ◌∷◌, ◌++◌, refl, ap, sym, ◌∙◌}
use Rattle.cm_tree.specs.declared.token.Token.{Token}
use Rattle.cm_tree.specs.declared.token.TokenKind.{TokenKind}
use Rattle.cm_tree.specs.declared.token.TokenKind.TheVariants as k
use Rattle.cm_tree.specs.declared.sign.Sign.{Sign}
use Rattle.cm_tree.specs.declared.sign.Sign.TheVariants as s
use Rattle.cm_tree.specs.declared.reserved.Reserved.{Reserved}
use Rattle.cm_tree.specs.declared.reserved.Reserved.TheVariants as w
use Rattle.cm_tree.specs.declared.operator.Change.{Change}
use Rattle.cm_tree.specs.declared.operator.Change.TheVariants as c
use Rattle.cm_tree.specs.declared.path.Path.{Path}
use Rattle.cm_tree.specs.declared.expr.Base.{Base}
use Rattle.cm_tree.specs.declared.type_expr.TypeExpr.{TypeExpr}
use Rattle.cm_tree.specs.declared.simple.Target.{Target}
use Rattle.cm_tree.specs.declared.simple.Local.{Local}
use Rattle.cm_tree.specs.declared.simple.Simple.{Simple}
use Rattle.cm_tree.specs.declared.stmt.Assert.{Assert}
use Rattle.cm_tree.specs.declared.stmt.Stmt.{Stmt}
use Rattle.cm_tree.specs.Spelling.{SpellsPath, SpellsBase, SpellsType}
use Rattle.cm_tree.specs.Spelling as e
use Rattle.cm_tree.specs.StmtSpelling.{change_sign, SpellsTarget, SpellsLocal, SpellsSimple, SpellsAssert, SpellsStmt}
use Rattle.cm_tree.specs.StmtSpelling as g
use Rattle.token_reader.specs.Parsers.{sees, is_sign, is_reserved, is_other}
use Rattle.token_reader.proofs.Inverses.{sign_is, reserved_is}
use Rattle.file_grammar.proofs.FirstTokens.{First, first_is, first_append}

-- what a statement may begin with
abbrev pub begins_stmt : TokenKind → Bool
begins_stmt (k.Word text) = true
begins_stmt (k.Sign s.LeftBrace) = true
begins_stmt (k.Sign s.Semicolon) = true
begins_stmt (k.Sign s.PlusPlus) = true
begins_stmt (k.Sign s.MinusMinus) = true
begins_stmt (k.Reserved w.Let) = true
begins_stmt (k.Reserved w.Var) = true
begins_stmt (k.Reserved w.Bool) = true
begins_stmt (k.Reserved w.Int) = true
begins_stmt (k.Reserved w.Int32) = true
begins_stmt (k.Reserved w.Int64) = true
begins_stmt (k.Reserved w.Wrap) = true
begins_stmt (k.Reserved w.Clamp) = true
begins_stmt (k.Reserved w.StaticAssert) = true
begins_stmt (k.Reserved w.If) = true
begins_stmt (k.Reserved w.Loop) = true
begins_stmt (k.Reserved w.While) = true
begins_stmt (k.Reserved w.For) = true
begins_stmt (k.Reserved w.Break) = true
begins_stmt (k.Reserved w.Continue) = true
begins_stmt (k.Reserved w.Return) = true
begins_stmt (k.Reserved w.Advance) = true
begins_stmt _ = false

path_first : {q : Path} {u : List Token} → SpellsPath q u → First begins_stmt u
path_first (e.path t n ns others is spelled) = first_is begins_stmt t others _ is refl

base_first : {b : Base} {u : List Token} → SpellsBase b u → First begins_stmt u
base_first (e.bool t is) = first_is begins_stmt t _ _ is.kind refl
base_first (e.int t is) = first_is begins_stmt t _ _ is.kind refl
base_first (e.int32 t is) = first_is begins_stmt t _ _ is.kind refl
base_first (e.int64 t is) = first_is begins_stmt t _ _ is.kind refl
base_first (e.wrap a t o v inner is io le sa iv) = first_is begins_stmt t _ _ is.kind refl
base_first (e.clamp a t o v inner is io le sa iv) = first_is begins_stmt t _ _ is.kind refl

type_first : {ty : TypeExpr} {u : List Token} → SpellsType ty u → First begins_stmt u
type_first (e.base b sizes front others sb ss) = first_append (base_first sb) others
type_first (e.named q sizes front others sq ss) = first_append (path_first sq) others

local_first : {a : Local} {u : List Token} → SpellsLocal a u → First begins_stmt u
local_first (g.constants all t others is listed) = first_is begins_stmt t others _ is.kind refl
local_first (g.variables all t others is listed) = first_is begins_stmt t others _ is.kind refl
local_first (g.typed ty all front others st listed) = first_append (type_first st) others

target_first : {v : Target} {u : List Token} → SpellsTarget v u → First begins_stmt u
target_first (g.target x steps t others is spelled) = first_is begins_stmt t others _ is.kind refl

change_begins : (op : Change) → begins_stmt (k.Sign (change_sign op)) ≡ true
change_begins c.Increase = refl
change_begins c.Decrease = refl

simple_first : {a : Simple} {u : List Token} → SpellsSimple a u → First begins_stmt u
simple_first (g.assign v op a t front value sv is sa) = first_append (target_first sv) (t ∷ value)
simple_first (g.after v op t front sv is) = first_append (target_first sv) (t ∷ [])
simple_first (g.before v op t others is sv) = first_is begins_stmt t others _ is.kind (change_begins op)
simple_first (g.call q xs o v front inner sq io sa iv) = first_append (path_first sq) (o ∷ (inner ++ v ∷ []))

assert_first : {a : Assert} {u : List Token} → SpellsAssert a u → First begins_stmt u
assert_first (g.bare a t o v end inner is io sa iv ie) = first_is begins_stmt t _ _ is.kind refl
assert_first (g.told a text t o comma x v end inner is io sa im ix iv ie) = first_is begins_stmt t _ _ is.kind refl

pub stmt_first : {a : Stmt} {u : List Token} → SpellsStmt a u → First begins_stmt u
stmt_first (g.block all o v inner io sa iv) = first_is begins_stmt o _ _ io.kind refl
stmt_first (g.empty t is) = first_is begins_stmt t _ _ is.kind refl
stmt_first (g.declared a end front sa ie) = first_append (local_first sa) (end ∷ [])
stmt_first (g.simple a end front sa ie) = first_append (simple_first sa) (end ∷ [])
stmt_first (g.asserted a tokens sa) = assert_first sa
stmt_first (g.if_only x a t o p test yes_ is io sx ip sa) = first_is begins_stmt t _ _ is.kind refl
stmt_first (g.if_else x a b t o p v test yes_ no_ is io sx ip sa shut iv sb) = first_is begins_stmt t _ _ is.kind refl
stmt_first (g.forever a t body is sa) = first_is begins_stmt t _ _ is.kind refl
stmt_first (g.times x a t o p count body is io sx ip sa) = first_is begins_stmt t _ _ is.kind refl
stmt_first (g.while x a t o p test body is io sx ip sa) = first_is begins_stmt t _ _ is.kind refl
stmt_first (g.for_type ty x a t o n p front body is io st ix ip sa) = first_is begins_stmt t _ _ is.kind refl
stmt_first (g.for_parts b x n a t o u v p first test next body is io sb iu sx iv sn ip sa) = first_is begins_stmt t _ _ is.kind refl
stmt_first (g.break t end is ie) = first_is begins_stmt t _ _ is.kind refl
stmt_first (g.continue t end is ie) = first_is begins_stmt t _ _ is.kind refl
stmt_first (g.return x t end value is sx ie) = first_is begins_stmt t _ _ is.kind refl
stmt_first (g.advance t o p end is io ip ie) = first_is begins_stmt t _ _ is.kind refl
stmt_first (g.write x a t arrow end value is iarrow sa ie) = first_is begins_stmt t _ _ is.kind refl

-- ---- what no statement begins with

apart_by : (x : Sign) (kind : TokenKind) (b : Bool) → is_sign x kind ≡ b → begins_stmt (k.Sign x) ≡ false → begins_stmt kind ≡ true → b ≡ false
apart_by x kind true is fails begins = absurd (let both : begins_stmt (k.Sign x) ≡ true = ap begins_stmt (sym (sign_is x kind is)) ∙ begins in cc)
apart_by x kind false is fails begins = refl

apart : (x : Sign) (kind : TokenKind) → begins_stmt (k.Sign x) ≡ false → begins_stmt kind ≡ true → is_sign x kind ≡ false
apart x kind fails begins = let b = apart_by x kind (is_sign x kind) refl fails begins in b

apart_word_by : (x : Reserved) (kind : TokenKind) (b : Bool) → is_reserved x kind ≡ b → begins_stmt (k.Reserved x) ≡ false → begins_stmt kind ≡ true → b ≡ false
apart_word_by x kind true is fails begins = absurd (let both : begins_stmt (k.Reserved x) ≡ true = ap begins_stmt (sym (reserved_is x kind is)) ∙ begins in cc)
apart_word_by x kind false is fails begins = refl

apart_word : (x : Reserved) (kind : TokenKind) → begins_stmt (k.Reserved x) ≡ false → begins_stmt kind ≡ true → is_reserved x kind ≡ false
apart_word x kind fails begins = let b = apart_word_by x kind (is_reserved x kind) refl fails begins in b

pub stmt_no_sign : (x : Sign) → begins_stmt (k.Sign x) ≡ false → {a : Stmt} {u : List Token} → SpellsStmt a u → (r : List Token) → sees (is_sign x) (u ++ r) ≡ false
unfolding sees
stmt_no_sign x fails h r = let f = stmt_first h in ap (λ (l : List Token). sees (is_sign x) (l ++ r)) f.parts ∙ apart x f.token.kind fails f.begins

pub stmt_other : {a : Stmt} {u : List Token} → SpellsStmt a u → (r : List Token) → sees (is_other s.RightBrace) (u ++ r) ≡ true
unfolding sees
stmt_other h r = let f = stmt_first h in ap (λ (l : List Token). sees (is_other s.RightBrace) (l ++ r)) f.parts ∙ ap not (apart s.RightBrace f.token.kind refl f.begins)

pub stmt_no_else : {a : Stmt} {u : List Token} → SpellsStmt a u → (r : List Token) → sees (is_reserved w.Else) (u ++ r) ≡ false
unfolding sees
stmt_no_else h r = let f = stmt_first h in ap (λ (l : List Token). sees (is_reserved w.Else) (l ++ r)) f.parts ∙ apart_word w.Else f.token.kind refl f.begins
