-- What is declared in a statement stands at its tokens, each at one of its own.
use Rattle.std.proofs.Common.{◌≡◌, List, [], ◌∷◌, map, refl, ◌∙◌, ap, subst}
use Rattle.std.specs.Prelude.{Option, flat_map}
use Rattle.std.proofs.lemmas.List.Concat.{flat_map_single}
use Rattle.cm_tree.specs.declared.token.Token.{Token}
use Rattle.cm_tree.specs.declared.path.Word.{Word}
use Rattle.cm_tree.specs.declared.type_expr.TypeExpr.{TypeExpr}
use Rattle.cm_tree.specs.declared.type_expr.Typed.{Typed}
use Rattle.cm_tree.specs.declared.simple.Init.{Init}
use Rattle.cm_tree.specs.declared.simple.Var.{Var}
use Rattle.cm_tree.specs.declared.simple.Local.{Local}
use Rattle.cm_tree.specs.declared.stmt.Start.{Start}
use Rattle.cm_tree.specs.declared.stmt.Block.{Block}
use Rattle.cm_tree.specs.declared.stmt.Stmt.{Stmt}
use Rattle.cm_tree.specs.Lists as lists
use Rattle.cm_tree.specs.Lists.{Optional, Further, Listed, MaybeListed}
use Rattle.cm_tree.specs.StmtSpelling.{SpellsTyped, SpellsInit, SpellsVar, SpellsLocal, SpellsStart, SpellsStmt, SpellsStmts, SpellsBlock}
use Rattle.cm_tree.specs.StmtSpelling as g
use Rattle.cm_meaning.specs.Declared.{Home, Declared}
use Rattle.cm_meaning.specs.Scopes.{Around, scoped, looped, declare, parameter, local_constant, inferred_local, typed_local}
use Rattle.cm_meaning.specs.BodySites.{init_sites, var_sites, local_sites, start_sites, after, after_start, counter, stmt_sites, stmts_sites, block_sites}
use Rattle.cm_meaning.specs.SiteEquations.{stmt_sites-Block, stmt_sites-Empty, stmt_sites-Local, stmt_sites-Simple, stmt_sites-Assert, stmt_sites-If, stmt_sites-IfElse, stmt_sites-Loop, stmt_sites-While, stmt_sites-ForType, stmt_sites-For, stmt_sites-Break, stmt_sites-Continue, stmt_sites-Return, stmt_sites-Advance, stmt_sites-Write}
use Rattle.cm_meaning.specs.PatchSites.{typed_sites}
use Rattle.path_places.proofs.NoWords.{none, more, no_words_expr, no_words_optional, no_words_type, no_words_simple, no_words_next}
use Rattle.path_places.proofs.Fits.{Fits, nothing, with_no_words, no_words, passing, after_front, before_back, together, named, opening, fits_maybe_listed}

-- ---- locals

-- what is made of a name and its value has that name
abbrev pub KeepsWord : (Home → Init → Declared) → Type 0
KeepsWord make = (home : Home) (a : Init) → (make home a).word ≡ a.name

pub fits_init : (make : Home → Init → Declared) → KeepsWord make → (home : Home) (a : Init) (tokens : List Token) → SpellsInit a tokens
    → Fits (make home a ∷ []) [] tokens
fits_init make keeps home a tokens (g.init w v t equals value is h spelled) = named (ap (λ (x : Word). x.place) (keeps home _) ∙ is.place) (nothing {tokens = equals ∷ value})

fits_further_inits : (make : Home → Init → Declared) → KeepsWord make → (r : Around) {all : List Init} {tokens : List Token} → Further SpellsInit all tokens → Fits [] (init_sites make r all) tokens
unfolding init_sites
fits_further_inits make keeps r lists.none = nothing
fits_further_inits make keeps r (lists.more a all comma first others is spelled further) =
    passing (opening refl (together (with_no_words (fits_init make keeps r.home a first spelled) (no_words_expr r a.value)) (fits_further_inits make keeps (declare r (make r.home a)) further)))

pub fits_inits : (make : Home → Init → Declared) → KeepsWord make → (r : Around) {all : List Init} {tokens : List Token} → Listed SpellsInit all tokens → Fits [] (init_sites make r all) tokens
unfolding init_sites
fits_inits make keeps r (lists.listed a all first others spelled further) =
    opening refl (together (with_no_words (fits_init make keeps r.home a first spelled) (no_words_expr r a.value)) (fits_further_inits make keeps (declare r (make r.home a)) further))

pub fits_var : (make : Home → Var → Declared) → ((home : Home) (a : Var) → (make home a).word ≡ a.name) → (home : Home) (a : Var) (tokens : List Token) → SpellsVar a tokens
    → Fits (make home a ∷ []) [] tokens
fits_var make keeps home a tokens (g.bare w t is) = named (ap (λ (x : Word). x.place) (keeps home _) ∙ is.place) nothing
fits_var make keeps home a tokens (g.init w v t equals value is h spelled) = named (ap (λ (x : Word). x.place) (keeps home _) ∙ is.place) (nothing {tokens = equals ∷ value})

fits_further_vars : (start : Around) (ty : TypeExpr) (r : Around) {all : List Var} {tokens : List Token} → Further SpellsVar all tokens → Fits [] (var_sites start ty r all) tokens
unfolding var_sites
fits_further_vars start ty r lists.none = nothing
fits_further_vars start ty r (lists.more a all comma first others is spelled further) =
    passing (opening refl (together (with_no_words (fits_var (λ home. typed_local home ty) (λ home x. refl) r.home a first spelled) (no_words_optional r a.value))
    (fits_further_vars start ty (declare r (typed_local r.home ty a)) further)))

fits_vars : (start : Around) (ty : TypeExpr) (r : Around) {all : List Var} {tokens : List Token} → Listed SpellsVar all tokens → Fits [] (var_sites start ty r all) tokens
unfolding var_sites
fits_vars start ty r (lists.listed a all first others spelled further) =
    opening refl (together (with_no_words (fits_var (λ home. typed_local home ty) (λ home x. refl) r.home a first spelled) (no_words_optional r a.value))
    (fits_further_vars start ty (declare r (typed_local r.home ty a)) further))

fits_local : (r : Around) {a : Local} {tokens : List Token} → SpellsLocal a tokens → Fits [] (local_sites r a) tokens
fits_local r (g.constants all t others is spelled) = passing (fits_inits local_constant (λ home x. refl) r spelled)
fits_local r (g.variables all t others is spelled) = passing (fits_inits inferred_local (λ home x. refl) r spelled)
fits_local r (g.typed ty all front others h spelled) = together (no_words (no_words_type r ty)) (fits_vars r ty r spelled)

fits_start : (r : Around) {a : Option Start} {tokens : List Token} → Optional SpellsStart a tokens → Fits [] (start_sites r a) tokens
fits_start r lists.absent = nothing
fits_start r (lists.present x tokens (g.declared a all spelled)) = fits_local r spelled
fits_start r (lists.present x tokens (g.simple a all spelled)) = no_words (no_words_simple r a)

-- ---- statements

mutual
  unfolding stmts_sites

  fits_stmt : (r : Around) {a : Stmt} {tokens : List Token} → SpellsStmt a tokens → Fits [] (stmt_sites r a) tokens
  fits_stmt r (g.block all o c inner h1 spelled h2) = rw stmt_sites-Block (passing (before_back (c ∷ []) (fits_stmts (scoped r []) spelled)))
  fits_stmt r (g.empty t is) = rw stmt_sites-Empty nothing
  fits_stmt r (g.declared a end front spelled is) = rw stmt_sites-Local (before_back (end ∷ []) (fits_local r spelled))
  fits_stmt r (g.simple a end front spelled is) = rw stmt_sites-Simple (no_words (no_words_simple r a))
  fits_stmt r (g.asserted a tokens spelled) = rw stmt_sites-Assert (no_words (no_words_expr r a.condition))
  fits_stmt r (g.if_only c a t o p test body h1 h2 tested h3 spelled) =
      rw stmt_sites-If (passing (passing (together (no_words (no_words_expr r c)) (passing (fits_stmt (scoped r []) spelled)))))
  fits_stmt r (g.if_else c a b t o p v test body tail h1 h2 tested h3 spelled h4 h5 other) =
      rw stmt_sites-IfElse (passing (passing (together (no_words (no_words_expr r c)) (passing (together (fits_stmt (scoped r []) spelled) (passing (fits_stmt (scoped r []) other)))))))
  fits_stmt r (g.forever a t body is spelled) = rw stmt_sites-Loop (passing (fits_stmt (scoped (looped r) []) spelled))
  fits_stmt r (g.times c a t o p count body h1 h2 counted h3 spelled) =
      rw stmt_sites-Loop (passing (passing (together (no_words (no_words_expr r c)) (passing (fits_stmt (scoped (looped r) []) spelled)))))
  fits_stmt r (g.while c a t o p test body h1 h2 tested h3 spelled) =
      rw stmt_sites-While (passing (passing (together (no_words (no_words_expr r c)) (passing (fits_stmt (scoped (looped r) []) spelled)))))
  fits_stmt r (g.for_type ty w a t o n p front body h1 h2 typed is h4 spelled) =
      rw stmt_sites-ForType (passing (passing (together (no_words (no_words_type r ty))
      (opening {names = counter r ty w ∷ []} refl (named is.place (passing (fits_stmt (scoped (scoped (looped r) (counter r ty w ∷ [])) []) spelled)))))))
  fits_stmt r (g.for_parts b c n a t o u v p first test next body h1 h2 begun h3 tested h4 stepped h5 spelled) =
      rw stmt_sites-For (passing (passing (together (fits_start (scoped r []) begun)
      (passing (together (no_words (no_words_optional (after_start (scoped r []) b) c))
      (passing (together (no_words (no_words_next (after_start (scoped r []) b) n))
      (passing (fits_stmt (scoped (looped (after_start (scoped r []) b)) []) spelled)))))))))
  fits_stmt r (g.break t end h1 h2) = rw stmt_sites-Break (no_words (more refl none))
  fits_stmt r (g.continue t end h1 h2) = rw stmt_sites-Continue (no_words (more refl none))
  fits_stmt r (g.return c t end value h1 spelled h2) = rw stmt_sites-Return (no_words (no_words_optional r c))
  fits_stmt r (g.advance t o p end h1 h2 h3 h4) = rw stmt_sites-Advance (no_words (more refl none))
  fits_stmt r (g.write w a t arrow end value is h1 spelled h2) = rw stmt_sites-Write (no_words (more refl (no_words_expr r a)))

  fits_stmts : (r : Around) {all : List Stmt} {tokens : List Token} → SpellsStmts all tokens → Fits [] (stmts_sites r all) tokens
  fits_stmts r g.no_stmts = nothing
  fits_stmts r (g.stmts a all first others spelled further) = together (fits_stmt r spelled) (fits_stmts (after r a) further)

pub fits_block : (r : Around) {a : Block} {tokens : List Token} → SpellsBlock a tokens → Fits [] (block_sites r a) tokens
fits_block r (g.block all o c inner h1 spelled h2) = passing (before_back (c ∷ []) (fits_stmts (scoped r []) spelled))

-- ---- parameters of a function or a handler

pub fits_typed : (home : Home) (r : Around) (a : Typed) (tokens : List Token) → SpellsTyped a tokens → Fits (parameter home a ∷ []) (typed_sites r a) tokens
fits_typed home r a tokens (g.typed ty w t front spelled is) = with_no_words (after_front front (named is.place nothing)) (no_words_type r ty)

pub fits_params : (home : Home) (r : Around) {params : List Typed} {tokens : List Token} → MaybeListed SpellsTyped params tokens
    → Fits (map (parameter home) params) (flat_map (typed_sites r) params) tokens
fits_params home r {params} {tokens} spelled =
    subst (λ names. Fits names (flat_map (typed_sites r) params) tokens) (flat_map_single (parameter home) params)
    (fits_maybe_listed (λ x. parameter home x ∷ []) (typed_sites r) (fits_typed home r) spelled)
