-- What is looked up in a declaration or a file stands at its tokens, in their order.
use Rattle.std.proofs.Common.{List, [], ◌∷◌, refl}
use Rattle.std.specs.Prelude.{flat_map}
use Rattle.cm_tree.specs.declared.token.Token.{Token}
use Rattle.cm_tree.specs.declared.reserved.Reserved.{Reserved}
use Rattle.cm_tree.specs.declared.member.Member.{Member}
use Rattle.cm_tree.specs.declared.decl.UnitDecl.{UnitDecl}
use Rattle.cm_tree.specs.declared.decl.Decl.{Decl}
use Rattle.cm_tree.specs.declared.file.File.{File}
use Rattle.cm_tree.specs.DeclSpelling.{SpellsUnit, SpellsDecl, SpellsDecls, SpellsFile}
use Rattle.cm_tree.specs.DeclSpelling as g
use Rattle.cm_meaning.specs.Declared.{Space, Declared, Processor, Graph}
use Rattle.cm_meaning.specs.Scopes.{Around, declared, in_space, around_space, within}
use Rattle.cm_meaning.specs.SiteEquations.{decl_sites-Namespace}
use Rattle.cm_meaning.specs.PatchSites.{member_sites, unit_sites, decl_sites, file_sites}
use Rattle.path_places.proofs.Follow.{Follow, none, past, plain, behind, ahead, both, at_every}
use Rattle.path_places.proofs.Members.{at_keys, at_shared, at_function, at_processor_item, at_graph_item, at_params}

at_unit : (first : Reserved) {P : Member → List Token → Type 0} → ((r : Around) (a : Member) (tokens : List Token) → P a tokens → Follow (member_sites r a) tokens)
    → (r : Around) (x : Declared) {u : UnitDecl} {tokens : List Token} → SpellsUnit first P u tokens → Follow (unit_sites r x u) tokens
at_unit first each r x (g.«unit» w params keys members t v o c front middle inner h1 h2 h3 h4 h5 spelled h6) =
    past (past (plain refl (plain refl (plain refl (both (at_params _ h3) (both (at_keys _ h4) (past (ahead (c ∷ []) (at_every _ (each _) spelled)))))))))

mutual
  unfolding decl_sites

  pub at_decl : (all : List Declared) (space : Space) {a : Decl} {tokens : List Token} → SpellsDecl a tokens → Follow (decl_sites all space a) tokens
  at_decl all space (g.namespace x decls t o c front inner h1 h2 h3 spelled h4) =
      rw decl_sites-Namespace (past (behind front (past (ahead (c ∷ []) (at_decls all (within space x.names) spelled)))))
  at_decl all space (g.processor a tokens spelled) = at_unit _ at_processor_item (around_space all space) (declared (in_space space) a.name (Processor a)) spelled
  at_decl all space (g.graph a tokens spelled) = at_unit _ at_graph_item (around_space all space) (declared (in_space space) a.name (Graph a)) spelled
  at_decl all space (g.shared a tokens spelled) = at_shared (around_space all space) spelled
  at_decl all space (g.function a tokens spelled) = at_function (around_space all space) spelled

  at_decls : (all : List Declared) (space : Space) {decls : List Decl} {tokens : List Token} → SpellsDecls decls tokens → Follow (flat_map (decl_sites all space) decls) tokens
  at_decls all space g.no_decls = none
  at_decls all space (g.decls a others first tokens spelled further) = both (at_decl all space spelled) (at_decls all space further)

pub at_file : (all : List Declared) {f : File} {tokens : List Token} → SpellsFile f tokens → Follow (file_sites all f) tokens
at_file all (g.file decls tokens spelled) = at_decls all [] spelled
