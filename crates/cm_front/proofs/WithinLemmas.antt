-- A name of the form stands in a token, so it has no more bytes than the texts.
use Rattle.std.proofs.Common.{◌≡◌, ℕ, ◌+◌, ◌≤◌, List, [], ◌∷◌, ◌++◌, length, refl, sym, ◌∙◌, ap, subst, arith, length-drop}
use Rattle.std.specs.Prelude.{slice_range, Result, Ok, Err, IfOk}
use Rattle.std.proofs.lemmas.List.{length-take}
use Rattle.std.proofs.lemmas.List.Sums.{sum_by-cons}
use Rattle.cm_base.specs.declared.host.Flow.{Flow}
use Rattle.cm_base.specs.declared.failure.Fail.{Fail}
use Rattle.cm_tree.specs.declared.reserved.Reserved.TheVariants as r
use Rattle.cm_tree.specs.declared.token.Token.{Token}
use Rattle.cm_tree.specs.declared.token.TokenKind.{TokenKind}
use Rattle.cm_tree.specs.declared.token.TokenKind.TheVariants as k
use Rattle.cm_tree.specs.declared.tokens.Tokens.{Tokens}
use Rattle.cm_tree.specs.declared.path.Word.{Word}
use Rattle.cm_tree.specs.declared.member.EndName.{EndName}
use Rattle.cm_tree.specs.declared.member.End.{End}
use Rattle.cm_tree.specs.declared.member.Member.{Member}
use Rattle.cm_tree.specs.declared.decl.UnitDecl.{UnitDecl}
use Rattle.cm_tree.specs.declared.decl.Decl.{Decl}
use Rattle.cm_tree.specs.declared.decl.Decl.TheVariants as d
use Rattle.cm_tree.specs.declared.file.File.{File}
use Rattle.cm_tree.specs.DeclSpelling as g
use Rattle.cm_tree.specs.DeclSpelling.{SpellsEndName, SpellsEnd, SpellsEnds, SpellsItem, SpellsProcessorItem, SpellsUnit, SpellsDecl, SpellsDecls, SpellsFile}
use Rattle.cm_tree.specs.Lists as lists
use Rattle.cm_tree.specs.Lists.{Every, Further, Listed}
use Rattle.cm_tree.specs.Pieces.{Text}
use Rattle.cm_tree.specs.Spans.{AreSpansFrom, HasText}
use Rattle.cm_tree.specs.Spelling.{IsWord}
use Rattle.cm_front.specs.declared.names.Through.{Through}
use Rattle.cm_front.specs.Form.{IsStreamEnd, IsStream, IsThrough, decls_of, HaveForm}
use Rattle.cm_front.specs.Phases.{AreFiles, bytes_in}
use Rattle.cm_front.specs.Spans.{HaveSpans}

-- ---- tokens whose names are short

abbrev pub IsShort : ℕ → TokenKind → Type 0
IsShort most (k.Word name) = length name ≤ most
IsShort most (k.Number value wide) = Unit {0}
IsShort most (k.Text quoted) = Unit {0}
IsShort most (k.Reserved word) = Unit {0}
IsShort most (k.Sign sign) = Unit {0}

abbrev pub AreShort : ℕ → List Token → Type 0
AreShort most [] = Unit {0}
AreShort most (token ∷ tokens) = IsShort most token.kind × AreShort most tokens

short_first : (most : ℕ) (front others : List Token) → AreShort most (front ++ others) → AreShort most front
short_first most [] others h = tt
short_first most (token ∷ front) others h = (h.0, short_first most front others h.1)

short_last : (most : ℕ) (front others : List Token) → AreShort most (front ++ others) → AreShort most others
short_last most [] others h = h
short_last most (token ∷ front) others h = short_last most front others h.1

range_within : (bytes : Text) (start end : ℕ) → end ≤ length bytes → length (slice_range bytes start end) ≤ length bytes
range_within bytes start end within = grind (arith, length-take, length-drop)

spans_short : (most from : ℕ) (bytes : Text) (tokens : List Token) → length bytes ≤ most → AreSpansFrom from bytes tokens → AreShort most tokens
spans_short most from bytes [] within spans = tt
spans_short most from bytes (token ∷ tokens) within spans =
    (by_kind token.kind spans.1.text, spans_short most token.end bytes tokens within spans.2)
  where
    by_kind : (kind : TokenKind) → HasText (slice_range bytes token.start token.end) kind → IsShort most kind
    by_kind (k.Word name) text = let short : length (slice_range bytes token.start token.end) ≤ length bytes = range_within bytes token.start token.end spans.1.within in omega (arith, ap length text)
    by_kind (k.Number value wide) text = tt
    by_kind (k.Text quoted) text = tt
    by_kind (k.Reserved word) text = tt
    by_kind (k.Sign sign) text = tt

short_word : (most : ℕ) (w : Word) (t : Token) → IsWord w t → IsShort most t.kind → length w.text ≤ most
short_word most w t is short = subst (IsShort most) is.kind short

-- ---- the names of the form

end_name_short : (most : ℕ) (found : EndName) (tokens : List Token) → SpellsEndName found tokens → AreShort most tokens → length found.name.text ≤ most
end_name_short most _ _ (g.name w keys t others is spelled) short = short_word most w t is short.0

listed_short : (most : ℕ) (names : List EndName) (found : EndName) (tokens : List Token) → names ≡ found ∷ [] → Listed SpellsEndName names tokens → AreShort most tokens → length found.name.text ≤ most
listed_short most _ found _ one (lists.listed first others front back spelled further) short =
    let same : first ≡ found = cc in
    subst (λ (z : EndName). length z.name.text ≤ most) same (end_name_short most first front spelled (short_first most front back short))

end_short : (most : ℕ) (end : End) (name : Text) (tokens : List Token) → IsStreamEnd name end → SpellsEnd end tokens → AreShort most tokens → length name ≤ most
end_short most _ name _ is (g.end kind ty names t c front others kind_is type spelled semicolon) short =
    subst (λ (z : Text). length z ≤ most) is.named
    (listed_short most names is.end_name others is.is spelled (short_first most others (c ∷ []) (short_last most front (others ++ c ∷ []) short.1)))

every_short : (most : ℕ) (ends : List End) (end : End) (name : Text) (tokens : List Token) → ends ≡ end ∷ [] → IsStreamEnd name end → Every SpellsEnd ends tokens → AreShort most tokens → length name ≤ most
every_short most _ end name _ one is lists.none short = absurd (cc)
every_short most _ end name _ one is (lists.more first others front back spelled every) short =
    let same : end ≡ first = cc in
    end_short most first name front (subst (IsStreamEnd name) same is) spelled (short_first most front back short)

ends_short : (most : ℕ) (ends : List End) (end : End) (name : Text) (tokens : List Token) → ends ≡ end ∷ [] → IsStreamEnd name end → SpellsEnds ends tokens → AreShort most tokens → length name ≤ most
ends_short most _ end name _ one is (g.one a tokens spelled) short =
    let same : end ≡ a = cc in
    end_short most a name tokens (subst (IsStreamEnd name) same is) spelled short
ends_short most _ end name _ one is (g.several all o c inner begins every ends) short =
    every_short most all end name inner one is every (short_first most inner (c ∷ []) short.1)

item_short : (most : ℕ) (member : Member) (flow : Flow) (name : Text) (tokens : List Token) → IsStream flow name member → SpellsItem member tokens → AreShort most tokens → length name ≤ most
item_short most _ flow name _ is (g.ends found all t others way spelled) short =
    let one : all ≡ is.end ∷ [] = cc (is.is) in
    ends_short most all is.end name others one is.stream spelled short.1
item_short most _ flow name _ is (g.shared a tokens spelled) short = absurd (cc (is.is))

member_short : (most : ℕ) (member : Member) (flow : Flow) (name : Text) (tokens : List Token) → IsStream flow name member → SpellsProcessorItem member tokens → AreShort most tokens → length name ≤ most
member_short most _ flow name _ is (g.item a tokens spelled) short = item_short most a flow name tokens is spelled short
member_short most _ flow name _ is (g.function a tokens spelled) short = absurd (cc (is.is))
member_short most _ flow name _ is (g.handler x a b t v o c inner body h1 h2 h3 h4 h5 h6) short = absurd (cc (is.is))
member_short most _ flow name _ is (g.variables all t c inner h1 h2 h3) short = absurd (cc (is.is))
member_short most _ flow name _ is (g.state ty all c front others h1 h2 h3) short = absurd (cc (is.is))
member_short most _ flow name _ is (g.latency a t dot v equals c inner h1 h2 h3 h4 h5 h6) short = absurd (cc (is.is))

-- the tokens of the first member, and of the others
first_member : (most : ℕ) (members rest : List Member) (first : Member) (tokens : List Token) → members ≡ first ∷ rest → Every SpellsProcessorItem members tokens → AreShort most tokens
    → (front : List Token) × (back : List Token) × SpellsProcessorItem first front × Every SpellsProcessorItem rest back × AreShort most front × AreShort most back
first_member most _ rest first _ one lists.none short = absurd (cc)
first_member most _ rest first _ one (lists.more a others front back spelled every) short =
    let same : a ≡ first = cc in
    let same_rest : others ≡ rest = cc in
    (front, back, subst (λ (z : Member). SpellsProcessorItem z front) same spelled, subst (λ (z : List Member). Every SpellsProcessorItem z back) same_rest every, short_first most front back short, short_last most front back short)

-- the name of the processor, of its input and of its output
abbrev pub Within : ℕ → Text → Text → Text → Type 0
Within most processor input output = (length processor ≤ most) × (length input ≤ most) × (length output ≤ most)

unit_short : (most : ℕ) (unit_decl : UnitDecl) (p a b : Text) (tokens : List Token) → IsThrough p a b unit_decl → SpellsUnit r.Processor SpellsProcessorItem unit_decl tokens → AreShort most tokens → Within most p a b
unit_short most _ p a b _ is (g.«unit» x params keys members t v o c front middle inner h1 word h2 h3 h4 every h5) short =
    let inside : AreShort most inner = short_first most inner (c ∷ []) (short_last most middle (o ∷ (inner ++ c ∷ [])) (short_last most front (middle ++ o ∷ (inner ++ c ∷ [])) short.1.1)).1 in
    let first = first_member most members (is.second ∷ is.third ∷ []) is.first inner is.is every inside in
    let second = first_member most (is.second ∷ is.third ∷ []) (is.third ∷ []) is.second first.1 refl first.3 first.5 in (
      subst (λ (z : Text). length z ≤ most) is.named (short_word most x v word short.1.0),
      member_short most is.first _ a first.0 is.input_end first.2 first.4,
      member_short most is.second _ b second.0 is.output_end second.2 second.4,
    )

decl_short : (most : ℕ) (decl : Decl) (unit_decl : UnitDecl) (p a b : Text) (tokens : List Token) → decl ≡ d.Processor unit_decl → IsThrough p a b unit_decl → SpellsDecl decl tokens → AreShort most tokens → Within most p a b
decl_short most _ unit_decl p a b _ one is (g.namespace x all t o c front inner h1 h2 h3 h4 h5) short = absurd (cc)
decl_short most _ unit_decl p a b _ one is (g.processor found tokens spelled) short =
    let same : unit_decl ≡ found = cc in
    unit_short most found p a b tokens (subst (IsThrough p a b) same is) spelled short
decl_short most _ unit_decl p a b _ one is (g.graph found tokens spelled) short = absurd (cc)
decl_short most _ unit_decl p a b _ one is (g.shared found tokens spelled) short = absurd (cc)
decl_short most _ unit_decl p a b _ one is (g.function found tokens spelled) short = absurd (cc)

decls_short : (most : ℕ) (decls rest : List Decl) (unit_decl : UnitDecl) (p a b : Text) (tokens : List Token) → decls ≡ d.Processor unit_decl ∷ rest → IsThrough p a b unit_decl → SpellsDecls decls tokens → AreShort most tokens → Within most p a b
decls_short most _ rest unit_decl p a b _ one is g.no_decls short = absurd (cc)
decls_short most _ rest unit_decl p a b _ one is (g.decls decl all first others spelled more) short =
    decl_short most decl unit_decl p a b first (cc) is spelled (short_first most first others short)

file_short : (most : ℕ) (file : File) (rest : List Decl) (unit_decl : UnitDecl) (p a b : Text) (tokens : List Token) → file.decls ≡ d.Processor unit_decl ∷ rest → IsThrough p a b unit_decl → SpellsFile file tokens → AreShort most tokens → Within most p a b
file_short most _ rest unit_decl p a b _ one is (g.file all tokens spelled) short = decls_short most all rest unit_decl p a b tokens one is spelled short

-- ---- all files

bytes_cons : (text : Text) (texts : List Text) → bytes_in (text ∷ texts) ≡ length text + bytes_in texts
bytes_cons text texts = sum_by-cons (λ (z : Text). length z) text texts

within_more : (m n : ℕ) (p a b : Text) → m ≤ n → Within m p a b → Within n p a b
within_more m n p a b h w = (omega (arith, w.0), omega (arith, w.1), omega (arith, w.2))

pub form_within : (texts : List Text) (all : List Tokens) (files : List File) (unit_decl : UnitDecl) (p a b : Text) → HaveSpans texts all → AreFiles all files → decls_of files ≡ d.Processor unit_decl ∷ [] → IsThrough p a b unit_decl
    → Within (bytes_in texts) p a b
form_within [] [] [] unit_decl p a b spans trees one is = absurd (cc)
form_within [] [] (file ∷ files) unit_decl p a b spans trees one is = absurd trees
form_within [] (tokens ∷ all) files unit_decl p a b spans trees one is = absurd spans
form_within (text ∷ texts) [] files unit_decl p a b spans trees one is = absurd spans
form_within (text ∷ texts) (tokens ∷ all) [] unit_decl p a b spans trees one is = absurd trees
form_within (text ∷ texts) (tokens ∷ all) (file ∷ files) unit_decl p a b spans trees one is =
    by_decls (λ later. form_within texts all files unit_decl p a b spans.1 trees.1 later is) file.decls refl
  where
    by_decls : (decls_of files ≡ d.Processor unit_decl ∷ [] → Within (bytes_in texts) p a b) → (decls : List Decl) → file.decls ≡ decls → Within (bytes_in (text ∷ texts)) p a b
    by_decls others [] are =
        let later : decls_of files ≡ d.Processor unit_decl ∷ [] = sym (ap (λ (z : List Decl). z ++ decls_of files) are) ∙ one in
        within_more (bytes_in texts) (bytes_in (text ∷ texts)) p a b (omega (arith, bytes_cons text texts)) (others later)
    by_decls others (decl ∷ rest) are =
        let joined : decl ∷ (rest ++ decls_of files) ≡ d.Processor unit_decl ∷ [] = sym (ap (λ (z : List Decl). z ++ decls_of files) are) ∙ one in
        let first : decl ≡ d.Processor unit_decl = cc in
        let starts : file.decls ≡ d.Processor unit_decl ∷ rest = are ∙ ap (λ (z : Decl). z ∷ rest) first in
        file_short (bytes_in (text ∷ texts)) file rest unit_decl p a b tokens.list starts is trees.0.spelled (spans_short (bytes_in (text ∷ texts)) 0 text tokens.list (omega (arith, bytes_cons text texts)) spans.0)

-- the names that are found
pub names_within : (texts : List Text) (all : List Tokens) (files : List File) (result : Result Through Fail) → HaveSpans texts all → AreFiles all files → IfOk result (λ t. HaveForm files t.processor t.input t.output)
    → IfOk result (λ t. Within (bytes_in texts) t.processor t.input t.output)
names_within texts all files (Ok t) spans trees form = form_within texts all files form.unit_decl t.processor t.input t.output spans trees form.is form.through
names_within texts all files (Err e) spans trees form = tt
