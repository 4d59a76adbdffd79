-- Files lexed and parsed one after another: what holds of those so far, and what follows of all.
use Rattle.std.proofs.Common.{◌≡◌, ℕ, ◌+◌, ◌<◌, ◌≤◌, ◌^◌, zero, suc, List, [], ◌∷◌, ◌++◌, length, drop, get_or, Result, Ok, Err, refl, sym, ◌∙◌, ap, subst, append_assoc, add-one, arith, inl, inr}
use Rattle.std.proofs.lemmas.List.{append-nil, drop_all}
use Rattle.std.proofs.Math.Seq.{drop-cons}
use Rattle.std.proofs.lemmas.List.Sums.{sum_by-cons}
use Rattle.cm_base.specs.declared.cause.Cause.{Cause}
use Rattle.cm_base.specs.declared.failure.Fail.{Fail}
use Rattle.cm_base.specs.declared.failure.Fail.TheVariants as fail
use Rattle.cm_base.specs.declared.place.Place.{Place}
use Rattle.cm_tree.specs.declared.file.File.{File}
use Rattle.cm_tree.specs.declared.token.Token.{Token}
use Rattle.cm_tree.specs.declared.tokens.Tokens.{Tokens}
use Rattle.cm_tree.specs.Faults.{IsFile}
use Rattle.cm_tree.specs.Pieces.{Text}
use Rattle.cm_tree.specs.Spans.{AreSpans, AreSpansFrom}
use Rattle.cm_tree.specs.Tokens.{IsTokens}
use Rattle.cm_lexer.specs.Answer as lexer
use Rattle.cm_parser.specs.Answer.{IsFileRefusal}
use Rattle.cm_front.specs.declared.names.Through.{Through}
use Rattle.cm_base.specs.Answers.{IfRefused, IsOkUnlessMemory}
use Rattle.cm_front.specs.Answer.{IsLexing, IsParsing, IsUncovered, IsRefusal, Parsing, Uncovered}
use Rattle.cm_front.specs.Phases.{AreTokensFrom, AreTokens, HaveLexFaultFrom, AreFiles, HaveFault, bytes_in}
use Rattle.cm_front.specs.Spans.{HaveSpans, AreFew}

bytes_cons : (text : Text) (texts : List Text) → bytes_in (text ∷ texts) ≡ length text + bytes_in texts
bytes_cons text texts = sum_by-cons (λ (z : Text). length z) text texts

-- a list from an item on
pub from_item : {A : Type 0} (xs : List A) (i : ℕ) (x : A) → i < length xs → x ≡ get_or xs i x → drop i xs ≡ x ∷ drop (i + 1) xs
from_item {A = A} xs i x within is =
    subst (λ (n : ℕ). drop i xs ≡ x ∷ drop n xs) (sym (add-one i)) (subst (λ (z : A). drop i xs ≡ z ∷ drop (suc i) xs) (sym is) (drop-cons xs i x within))

-- ---- lexing

-- Files before some number were lexed: with what follows for the rest there is what follows for all.
pub record LexedTo (texts rest : List Text) (number : ℕ) (found : List Tokens) : Type 0 where
  pub whole : (others : List Tokens) → AreTokensFrom number rest others → AreTokens texts (found ++ others)
  pub spans : (others : List Tokens) → HaveSpans rest others → HaveSpans texts (found ++ others)
  pub fault : (cause : Cause) (place : Place) → HaveLexFaultFrom number rest cause place → HaveLexFaultFrom 1 texts cause place
  pub split : (all : List Tokens) → AreTokens texts all → (others : List Tokens) × (all ≡ found ++ others) × AreTokensFrom number rest others

pub lexed_none : (texts : List Text) → LexedTo texts texts 1 []
lexed_none texts = record {
  whole = λ others h. h;
  spans = λ others h. h;
  fault = λ cause place h. h;
  split = λ all h. (all, refl, h);
}

-- the tokens of one more file
first_tokens : (number : ℕ) (text : Text) (rest : List Text) (others : List Tokens) → AreTokensFrom number (text ∷ rest) others
    → (tokens : Tokens) × (more : List Tokens) × (others ≡ tokens ∷ more) × IsTokens number text tokens × AreTokensFrom (number + 1) rest more
first_tokens number text rest [] h = absurd h
first_tokens number text rest (tokens ∷ more) h = (tokens, more, refl, h.0, h.1)

pub lexed_more : (texts rest : List Text) (number : ℕ) (found : List Tokens) (text : Text) (tokens : Tokens)
    → ((other : Tokens) → IsTokens number text other → tokens ≡ other) → IsTokens number text tokens → AreSpans text tokens.list
    → LexedTo texts (text ∷ rest) number found → LexedTo texts rest (number + 1) (found ++ tokens ∷ [])
lexed_more texts rest number found text tokens unique is spans to = record {
  whole = λ others h. subst (AreTokens texts) (sym (append_assoc found (tokens ∷ []) others)) (to.whole (tokens ∷ others) (is, h));
  spans = λ others h. subst (HaveSpans texts) (sym (append_assoc found (tokens ∷ []) others)) (to.spans (tokens ∷ others) (spans, h));
  fault = λ cause place h. to.fault cause place (inr h);
  split = λ all h. split all (to.split all h);
}
  where
    split : (all : List Tokens) → ((others : List Tokens) × (all ≡ found ++ others) × AreTokensFrom number (text ∷ rest) others)
        → (others : List Tokens) × (all ≡ (found ++ tokens ∷ []) ++ others) × AreTokensFrom (number + 1) rest others
    split all old =
        let first = first_tokens number text rest old.0 old.2 in
        let same : old.0 ≡ tokens ∷ first.1 = first.2 ∙ ap (λ (z : Tokens). z ∷ first.1) (sym (unique first.0 first.3)) in
        (first.1, old.1 ∙ (ap (λ (z : List Tokens). found ++ z) same ∙ sym (append_assoc found (tokens ∷ []) first.1)), first.4)

-- the same at a file's index
at_file : (texts : List Text) (i : ℕ) (found : List Tokens) (item text : Text) → i < length texts → item ≡ get_or texts i item → text ≡ item
    → LexedTo texts (drop i texts) (i + 1) found → LexedTo texts (text ∷ drop (i + 1) texts) (i + 1) found
at_file texts i found item text within is same to =
    subst (λ (z : Text). LexedTo texts (z ∷ drop (i + 1) texts) (i + 1) found) (sym same) (subst (λ (z : List Text). LexedTo texts z (i + 1) found) (from_item texts i item within is) to)

pub lexed_next : (texts : List Text) (i : ℕ) (found new : List Tokens) (item text : Text) (tokens : Tokens) → i < length texts → item ≡ get_or texts i item → text ≡ item
    → ((other : Tokens) → IsTokens (i + 1) text other → tokens ≡ other) → IsTokens (i + 1) text tokens → AreSpans text tokens.list → new ≡ found ++ tokens ∷ []
    → LexedTo texts (drop i texts) (i + 1) found → LexedTo texts (drop (i + 1) texts) (i + 1 + 1) new
lexed_next texts i found new item text tokens within is same unique are spans pushed to =
    subst (λ (z : List Tokens). LexedTo texts (drop (i + 1) texts) (i + 1 + 1) z) (sym pushed)
    (lexed_more texts (drop (i + 1) texts) (i + 1) found text tokens unique are spans (at_file texts i found item text within is same to))

-- all files were lexed
lexed_end : (texts : List Text) (i : ℕ) (found : List Tokens) → length texts ≤ i → LexedTo texts (drop i texts) (i + 1) found → LexedTo texts [] (i + 1) found
lexed_end texts i found past to = subst (λ (z : List Text). LexedTo texts z (i + 1) found) (drop_all i texts past) to

pub lexed_tokens : (texts : List Text) (i : ℕ) (found : List Tokens) → length texts ≤ i → LexedTo texts (drop i texts) (i + 1) found → AreTokens texts found
lexed_tokens texts i found past to = subst (AreTokens texts) (append-nil found) ((lexed_end texts i found past to).whole [] tt)

pub lexed_spans : (texts : List Text) (i : ℕ) (found : List Tokens) → length texts ≤ i → LexedTo texts (drop i texts) (i + 1) found → HaveSpans texts found
lexed_spans texts i found past to = subst (HaveSpans texts) (append-nil found) ((lexed_end texts i found past to).spans [] tt)

no_tokens : (number : ℕ) (others : List Tokens) → AreTokensFrom number [] others → others ≡ []
no_tokens number [] h = refl
no_tokens number (tokens ∷ others) h = absurd h

pub lexed_only : (texts : List Text) (i : ℕ) (found all : List Tokens) → length texts ≤ i → LexedTo texts (drop i texts) (i + 1) found → AreTokens texts all → found ≡ all
lexed_only texts i found all past to h =
    let old = (lexed_end texts i found past to).split all h in
    sym (old.1 ∙ (ap (λ (z : List Tokens). found ++ z) (no_tokens (i + 1) old.0 old.2) ∙ append-nil found))

-- a file was refused
refused_by : (texts rest : List Text) (number : ℕ) (found : List Tokens) (text : Text) (e : Fail) → LexedTo texts (text ∷ rest) number found
    → IfRefused {X = Tokens} (Err e) (lexer.IsLexRefusal number text) → IfRefused {X = List Tokens} (Err e) (IsLexing texts)
refused_by texts rest number found text (fail.Refused refused) to h = record { fault = to.fault refused.cause refused.place (inl h.fault); cycle = h.cycle }
refused_by texts rest number found text fail.NoMemory to h = tt

pub lexed_refused : (texts : List Text) (i : ℕ) (found : List Tokens) (item text : Text) (e : Fail) → i < length texts → item ≡ get_or texts i item → text ≡ item
    → IfRefused {X = Tokens} (Err e) (lexer.IsLexRefusal (i + 1) text) → LexedTo texts (drop i texts) (i + 1) found → IfRefused {X = List Tokens} (Err e) (IsLexing texts)
lexed_refused texts i found item text e within is same h to = refused_by texts (drop (i + 1) texts) (i + 1) found text e (at_file texts i found item text within is same to) h

-- and then the files have no tokens
stopped_by : (P : List Tokens → Type 0) (texts rest : List Text) (number : ℕ) (found all : List Tokens) (text : Text) (e : Fail) → LexedTo texts (text ∷ rest) number found
    → ((tokens : Tokens) → IsTokens number text tokens → IsOkUnlessMemory {X = Tokens} (Err e) (λ other. other ≡ tokens)) → AreTokens texts all → IsOkUnlessMemory {X = List Tokens} (Err e) P
stopped_by P texts rest number found all text (fail.Refused refused) to only h =
    let old = to.split all h in
    let first = first_tokens number text rest old.0 old.2 in
    absurd (only first.0 first.3)
stopped_by P texts rest number found all text fail.NoMemory to only h = tt

pub lexed_stop : (P : List Tokens → Type 0) (texts : List Text) (i : ℕ) (found all : List Tokens) (item text : Text) (e : Fail) → i < length texts → item ≡ get_or texts i item → text ≡ item
    → ((tokens : Tokens) → IsTokens (i + 1) text tokens → IsOkUnlessMemory {X = Tokens} (Err e) (λ other. other ≡ tokens)) → LexedTo texts (drop i texts) (i + 1) found → AreTokens texts all
    → IsOkUnlessMemory {X = List Tokens} (Err e) P
lexed_stop P texts i found all item text e within is same only to h = stopped_by P texts (drop (i + 1) texts) (i + 1) found all text e (at_file texts i found item text within is same to) only h

-- ---- how tokens stand in their texts

spans_count : (from : ℕ) (bytes : Text) (all : List Token) → from ≤ length bytes → AreSpansFrom from bytes all → from + length all ≤ length bytes
spans_count from bytes [] within spans = omega arith
spans_count from bytes (token ∷ all) within spans =
    let next : token.end + length all ≤ length bytes = spans_count token.end bytes all spans.1.within spans.2 in
    let some : token.start < token.end = spans.1.some in
    let behind : from ≤ token.start = spans.0 in
    omega arith

pub spans_few : (texts : List Text) (all : List Tokens) → HaveSpans texts all → bytes_in texts < 2 ^ 31 → AreFew all
spans_few [] [] spans few = tt
spans_few [] (tokens ∷ all) spans few = absurd spans
spans_few (text ∷ texts) [] spans few = absurd spans
spans_few (text ∷ texts) (tokens ∷ all) spans few =
    let count : 0 + length tokens.list ≤ length text = spans_count 0 text tokens.list (omega arith) spans.0 in
    (omega (arith, bytes_cons text texts), spans_few texts all spans.1 (omega (arith, bytes_cons text texts)))

-- ---- grammar

-- Files before some were parsed.
pub record ParsedTo (all rest : List Tokens) (found : List File) : Type 0 where
  pub whole : (others : List File) → AreFiles rest others → AreFiles all (found ++ others)
  pub fault : (place : Place) → HaveFault rest place → HaveFault all place
  pub split : (files : List File) → AreFiles all files → (others : List File) × (files ≡ found ++ others) × AreFiles rest others

pub parsed_none : (all : List Tokens) → ParsedTo all all []
parsed_none all = record {
  whole = λ others h. h;
  fault = λ place h. h;
  split = λ files h. (files, refl, h);
}

first_file : (tokens : Tokens) (rest : List Tokens) (others : List File) → AreFiles (tokens ∷ rest) others
    → (file : File) × (more : List File) × (others ≡ file ∷ more) × IsFile 256 tokens.list file × AreFiles rest more
first_file tokens rest [] h = absurd h
first_file tokens rest (file ∷ more) h = (file, more, refl, h.0, h.1)

pub parsed_more : (all rest : List Tokens) (found : List File) (tokens : Tokens) (file : File)
    → ((other : File) → IsFile 256 tokens.list other → file ≡ other) → IsFile 256 tokens.list file
    → ParsedTo all (tokens ∷ rest) found → ParsedTo all rest (found ++ file ∷ [])
parsed_more all rest found tokens file unique is to = record {
  whole = λ others h. subst (AreFiles all) (sym (append_assoc found (file ∷ []) others)) (to.whole (file ∷ others) (is, h));
  fault = λ place h. to.fault place (inr h);
  split = λ files h. split files (to.split files h);
}
  where
    split : (files : List File) → ((others : List File) × (files ≡ found ++ others) × AreFiles (tokens ∷ rest) others)
        → (others : List File) × (files ≡ (found ++ file ∷ []) ++ others) × AreFiles rest others
    split files old =
        let first = first_file tokens rest old.0 old.2 in
        let same : old.0 ≡ file ∷ first.1 = first.2 ∙ ap (λ (z : File). z ∷ first.1) (sym (unique first.0 first.3)) in
        (first.1, old.1 ∙ (ap (λ (z : List File). found ++ z) same ∙ sym (append_assoc found (file ∷ []) first.1)), first.4)

at_tokens : (all : List Tokens) (i : ℕ) (found : List File) (tokens : Tokens) → i < length all → tokens ≡ get_or all i tokens → ParsedTo all (drop i all) found → ParsedTo all (tokens ∷ drop (i + 1) all) found
at_tokens all i found tokens within is to = subst (λ (z : List Tokens). ParsedTo all z found) (from_item all i tokens within is) to

pub parsed_next : (all : List Tokens) (i : ℕ) (found new : List File) (tokens : Tokens) (file : File) → i < length all → tokens ≡ get_or all i tokens
    → ((other : File) → IsFile 256 tokens.list other → file ≡ other) → IsFile 256 tokens.list file → new ≡ found ++ file ∷ [] → ParsedTo all (drop i all) found → ParsedTo all (drop (i + 1) all) new
parsed_next all i found new tokens file within is unique spelled pushed to =
    subst (λ (z : List File). ParsedTo all (drop (i + 1) all) z) (sym pushed) (parsed_more all (drop (i + 1) all) found tokens file unique spelled (at_tokens all i found tokens within is to))

parsed_end : (all : List Tokens) (i : ℕ) (found : List File) → length all ≤ i → ParsedTo all (drop i all) found → ParsedTo all [] found
parsed_end all i found past to = subst (λ (z : List Tokens). ParsedTo all z found) (drop_all i all past) to

pub parsed_files : (all : List Tokens) (i : ℕ) (found : List File) → length all ≤ i → ParsedTo all (drop i all) found → AreFiles all found
parsed_files all i found past to = subst (AreFiles all) (append-nil found) ((parsed_end all i found past to).whole [] tt)

no_files : (others : List File) → AreFiles [] others → others ≡ []
no_files [] h = refl
no_files (file ∷ others) h = absurd h

pub parsed_only : (all : List Tokens) (i : ℕ) (found files : List File) → length all ≤ i → ParsedTo all (drop i all) found → AreFiles all files → found ≡ files
parsed_only all i found files past to h =
    let old = (parsed_end all i found past to).split files h in
    sym (old.1 ∙ (ap (λ (z : List File). found ++ z) (no_files old.0 old.2) ∙ append-nil found))

parse_refused_by : (all rest : List Tokens) (found : List File) (tokens : Tokens) (e : Fail) → ParsedTo all (tokens ∷ rest) found
    → IfRefused {X = File} (Err e) (IsFileRefusal tokens.list tokens.last) → IfRefused {X = List File} (Err e) (IsParsing all)
parse_refused_by all rest found tokens (fail.Refused refused) to h = record { cause = h.cause; fault = to.fault refused.place (inl h.fault); cycle = h.cycle }
parse_refused_by all rest found tokens fail.NoMemory to h = tt

pub parsed_refused : (all : List Tokens) (i : ℕ) (found : List File) (tokens : Tokens) (e : Fail) → i < length all → tokens ≡ get_or all i tokens
    → IfRefused {X = File} (Err e) (IsFileRefusal tokens.list tokens.last) → ParsedTo all (drop i all) found → IfRefused {X = List File} (Err e) (IsParsing all)
parsed_refused all i found tokens e within is h to = parse_refused_by all (drop (i + 1) all) found tokens e (at_tokens all i found tokens within is to) h

parse_stopped_by : (P : List File → Type 0) (all rest : List Tokens) (found files : List File) (tokens : Tokens) (e : Fail) → ParsedTo all (tokens ∷ rest) found
    → ((file : File) → IsFile 256 tokens.list file → IsOkUnlessMemory {X = File} (Err e) (λ other. other ≡ file)) → AreFiles all files → IsOkUnlessMemory {X = List File} (Err e) P
parse_stopped_by P all rest found files tokens (fail.Refused refused) to only h =
    let old = to.split files h in
    let first = first_file tokens rest old.0 old.2 in
    absurd (only first.0 first.3)
parse_stopped_by P all rest found files tokens fail.NoMemory to only h = tt

pub parsed_stop : (P : List File → Type 0) (all : List Tokens) (i : ℕ) (found files : List File) (tokens : Tokens) (e : Fail) → i < length all → tokens ≡ get_or all i tokens
    → ((file : File) → IsFile 256 tokens.list file → IsOkUnlessMemory {X = File} (Err e) (λ other. other ≡ file)) → ParsedTo all (drop i all) found → AreFiles all files → IsOkUnlessMemory {X = List File} (Err e) P
parsed_stop P all i found files tokens e within is only to h = parse_stopped_by P all (drop (i + 1) all) found files tokens e (at_tokens all i found tokens within is to) only h

-- the first of the files has few tokens
pub few_at : (all : List Tokens) (i : ℕ) (tokens : Tokens) → AreFew all → i < length all → tokens ≡ get_or all i tokens → length tokens.list < 2 ^ 31
few_at [] i tokens few within is = absurd (omega arith)
few_at (first ∷ all) zero tokens few within is = subst (λ (z : Tokens). length z.list < 2 ^ 31) (sym is) few.0
few_at (first ∷ all) (suc i) tokens few within is = few_at all i tokens few.1 (omega arith) is

-- a text has no more bytes than all
pub bytes_at : (texts : List Text) (i : ℕ) (text : Text) → i < length texts → text ≡ get_or texts i text → length text ≤ bytes_in texts
bytes_at [] i text within is = absurd (omega arith)
bytes_at (first ∷ texts) zero text within is = let e : length text ≡ length first = ap length is in omega (arith, bytes_cons first texts)
bytes_at (first ∷ texts) (suc i) text within is = let later : length text ≤ bytes_in texts = bytes_at texts i text (omega arith) is in omega (arith, bytes_cons first texts)

-- what `front` answers after a refusal of a phase
pub parsing_refused : (texts : List Text) (all : List Tokens) (e : Fail) → AreTokens texts all → IfRefused {X = List File} (Err e) (IsParsing all) → IfRefused {X = Through} (Err e) (IsRefusal texts)
parsing_refused texts all (fail.Refused refused) tokens h = Parsing all tokens h
parsing_refused texts all fail.NoMemory tokens h = tt

pub uncovered_refused : (texts : List Text) (all : List Tokens) (files : List File) (result : Result Through Fail) → AreTokens texts all → AreFiles all files → IfRefused result (IsUncovered files) → IfRefused result (IsRefusal texts)
uncovered_refused texts all files (Ok found) tokens trees h = tt
uncovered_refused texts all files (Err (fail.Refused refused)) tokens trees h = Uncovered files (record { all = all; tokens = tokens; trees = trees }) h
uncovered_refused texts all files (Err fail.NoMemory) tokens trees h = tt
