-- The two endpoints of a patch of the form stand at different places.
use Rattle.std.proofs.Common.{◌≡◌, ◌≢◌, List, [], ◌∷◌, ◌++◌, refl, ◌∙◌, ap, subst, inl, inr}
use Rattle.cm_base.specs.declared.host.Flow.{Flow}
use Rattle.cm_base.specs.declared.host.Flow.TheVariants.{Input, Output}
use Rattle.cm_tree.specs.declared.token.Token.{Token}
use Rattle.cm_tree.specs.declared.reserved.Reserved.TheVariants as r
use Rattle.cm_tree.specs.declared.member.EndName.{EndName}
use Rattle.cm_tree.specs.declared.member.End.{End}
use Rattle.cm_tree.specs.declared.member.Member.{Member}
use Rattle.cm_tree.specs.declared.decl.UnitDecl.{UnitDecl}
use Rattle.cm_tree.specs.declared.decl.Decl.{Decl}
use Rattle.cm_tree.specs.declared.decl.Decl.TheVariants as d
use Rattle.cm_tree.specs.declared.file.File.{File}
use Rattle.cm_tree.specs.Lists.{Every, Listed}
use Rattle.cm_tree.specs.Lists as lists
use Rattle.cm_tree.specs.DeclSpelling as g
use Rattle.cm_tree.specs.DeclSpelling.{SpellsEndName, SpellsEnd, SpellsEnds, SpellsItem, SpellsProcessorItem, SpellsUnit, SpellsDecl, SpellsDecls, SpellsFile}
use Rattle.cm_tree.specs.Pieces.{Text}
use Rattle.token_places.specs.Rising.{AreRising}
use Rattle.token_places.proofs.Rise.{rise, rising_right, rising_left, StandsIn, stands_right, stands_left, parts_apart}
use Rattle.cm_front.specs.Form.{decls_of}
use Rattle.through_meaning.specs.Patches.{IsRead, AreRead}
use Rattle.through_meaning.specs.Parts.{StreamPlaces, Parts, end_at, stream_at, unit_at}

-- ---- an endpoint's name is one of its tokens

end_name_stands : {a : EndName} {tokens : List Token} → SpellsEndName a tokens → StandsIn a.name.place tokens
end_name_stands (g.name w keys t others is spelled) = inl is.place

names_stand : {names : List EndName} {tokens : List Token} → Listed SpellsEndName names tokens → (a : EndName) → names ≡ a ∷ [] → StandsIn a.name.place tokens
names_stand (lists.listed x xs first others spelled further) a is =
    let same : x ≡ a = cc (is) in
    subst (λ (y : EndName). StandsIn y.name.place (first ++ others)) same (stands_left x.name.place first others (end_name_stands spelled))

end_stands : {a : End} {tokens : List Token} → SpellsEnd a tokens → (p : StreamPlaces) (name : Text) → a ≡ end_at p name → StandsIn p.name tokens
end_stands (g.end kind ty names t c front others is_kind is_type spelled is_sign) p name e =
    inr (stands_right p.name front (others ++ c ∷ []) (stands_left p.name others (c ∷ []) (names_stand spelled _ (ap (λ (x : End). x.names) e))))

every_end : {all : List End} {tokens : List Token} → Every SpellsEnd all tokens → (p : StreamPlaces) (name : Text) → all ≡ end_at p name ∷ [] → StandsIn p.name tokens
every_end lists.none p name e = absurd (cc (e))
every_end (lists.more x xs first others spelled further) p name e =
    let same : x ≡ end_at p name = cc (e) in stands_left p.name first others (end_stands spelled p name same)

ends_stand : {all : List End} {tokens : List Token} → SpellsEnds all tokens → (p : StreamPlaces) (name : Text) → all ≡ end_at p name ∷ [] → StandsIn p.name tokens
ends_stand (g.one a tokens spelled) p name e = let same : a ≡ end_at p name = cc (e) in end_stands spelled p name same
ends_stand (g.several all o c inner opens every closes) p name e = inr (stands_left p.name inner (c ∷ []) (every_end every p name e))

item_stands : {a : Member} {tokens : List Token} → SpellsItem a tokens → (flow : Flow) (p : StreamPlaces) (name : Text) → a ≡ stream_at flow p name → StandsIn p.name tokens
item_stands (g.ends f all t others is_flow spelled) flow p name e =
    let same : all ≡ end_at p name ∷ [] = cc (e) in inr (ends_stand spelled p name same)
item_stands (g.shared a tokens spelled) flow p name e = absurd (cc (e))

member_stands : {a : Member} {tokens : List Token} → SpellsProcessorItem a tokens → (flow : Flow) (p : StreamPlaces) (name : Text) → a ≡ stream_at flow p name → StandsIn p.name tokens
member_stands (g.item a tokens spelled) flow p name e = item_stands spelled flow p name e
member_stands (g.function a tokens spelled) flow p name e = absurd (cc (e))
member_stands (g.handler x a b t v o c inner body h1 h2 h3 h4 h5 h6) flow p name e = absurd (cc (e))
member_stands (g.variables all t c inner h1 h2 h3) flow p name e = absurd (cc (e))
member_stands (g.state ty all c front others h1 h2 h3) flow p name e = absurd (cc (e))
member_stands (g.latency a t dot v equals c inner h1 h2 h3 h4 h5 h6) flow p name e = absurd (cc (e))

-- ---- that of the second stands behind that of the first

second_stands : {members : List Member} {tokens : List Token} → Every SpellsProcessorItem members tokens → (p : StreamPlaces) (name : Text) (others : List Member) → members ≡ stream_at Output p name ∷ others → StandsIn p.name tokens
second_stands lists.none p name others e = absurd (cc (e))
second_stands (lists.more x xs first rest spelled further) p name others e =
    let same : x ≡ stream_at Output p name = cc (e) in stands_left p.name first rest (member_stands spelled Output p name same)

members_apart : {members : List Member} {tokens : List Token} → Every SpellsProcessorItem members tokens → (p q : StreamPlaces) (input output : Text) (others : List Member) →
    members ≡ stream_at Input p input ∷ stream_at Output q output ∷ others → AreRising tokens → p.name ≢ q.name
members_apart lists.none p q input output others e rising = absurd (cc (e))
members_apart (lists.more x xs first rest spelled further) p q input output others e rising =
    let same : x ≡ stream_at Input p input = cc (e) in
    let more : xs ≡ stream_at Output q output ∷ others = cc (e) in
    parts_apart p.name q.name first rest rising (member_stands spelled Input p input same) (second_stands further q output others more)

unit_apart : {a : UnitDecl} {tokens : List Token} → SpellsUnit r.Processor SpellsProcessorItem a tokens → (parts : Parts) (input output : Text) → a ≡ unit_at parts input output → AreRising tokens →
    parts.input.name ≢ parts.output.name
unit_apart (g.«unit» x params keys members t v o c front middle inner h1 h2 h3 h4 h5 every h7) parts input output e rising =
    let behind = rising_right middle _ (rising_right front _ rising.1.1) in
    members_apart every parts.input parts.output input output _ (ap (λ (u : UnitDecl). u.members) e) (rising_left inner (c ∷ []) behind.1)

decl_apart : {a : Decl} {tokens : List Token} → SpellsDecl a tokens → (parts : Parts) (input output : Text) → a ≡ d.Processor (unit_at parts input output) → AreRising tokens → parts.input.name ≢ parts.output.name
decl_apart (g.namespace x all t o c front inner h1 h2 h3 h4 h5) parts input output e rising = absurd (cc (e))
decl_apart (g.processor a tokens spelled) parts input output e rising =
    let same : a ≡ unit_at parts input output = cc (e) in unit_apart spelled parts input output same rising
decl_apart (g.graph a tokens spelled) parts input output e rising = absurd (cc (e))
decl_apart (g.shared a tokens spelled) parts input output e rising = absurd (cc (e))
decl_apart (g.function a tokens spelled) parts input output e rising = absurd (cc (e))

decls_apart : {all : List Decl} {tokens : List Token} → SpellsDecls all tokens → (parts : Parts) (input output : Text) → all ≡ d.Processor (unit_at parts input output) ∷ [] → AreRising tokens →
    parts.input.name ≢ parts.output.name
decls_apart g.no_decls parts input output e rising = absurd (cc (e))
decls_apart (g.decls a all first others spelled further) parts input output e rising =
    let same : a ≡ d.Processor (unit_at parts input output) = cc (e) in decl_apart spelled parts input output same (rising_left first others rising)

file_apart : {f : File} {tokens : List Token} → SpellsFile f tokens → (parts : Parts) (input output : Text) → f.decls ≡ d.Processor (unit_at parts input output) ∷ [] → AreRising tokens →
    parts.input.name ≢ parts.output.name
file_apart (g.file all tokens spelled) parts input output e rising = decls_apart spelled parts input output e rising

-- ---- in a patch of several files

nothing_more : (xs ys : List Decl) → xs ++ ys ≡ [] → xs ≡ []
nothing_more [] ys e = refl
nothing_more (x ∷ xs) ys e = absurd (cc (e))

by_decls : (f : File) (decls : List Decl) → f.decls ≡ decls → (others : List Decl) (parts : Parts) (input output : Text) → decls ++ others ≡ d.Processor (unit_at parts input output) ∷ [] → IsRead f →
    (others ≡ d.Processor (unit_at parts input output) ∷ [] → parts.input.name ≢ parts.output.name) → parts.input.name ≢ parts.output.name
by_decls f [] is others parts input output e read go = go e
by_decls f (a ∷ all) is others parts input output e read go =
    let same : a ≡ d.Processor (unit_at parts input output) = cc (e) in
    let rest : all ++ others ≡ [] = cc (e) in
    file_apart read.spelled parts input output (is ∙ ap (λ x. x ∷ all) same ∙ ap (λ xs. d.Processor (unit_at parts input output) ∷ xs) (nothing_more all others rest))
    (rise read.number read.text read.tokens read.is_tokens)

pub files_apart : (files : List File) → AreRead files → (parts : Parts) (input output : Text) → decls_of files ≡ d.Processor (unit_at parts input output) ∷ [] → parts.input.name ≢ parts.output.name
files_apart [] all parts input output e = absurd (cc (e))
files_apart (f ∷ files) all parts input output e = by_decls f f.decls refl (decls_of files) parts input output e all.0 (files_apart files all.1 parts input output)
