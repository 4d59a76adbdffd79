-- Trees are of the form exactly where names are found in them.
use Rattle.std.proofs.Common.{◌≡◌, ◌≢◌, ℕ, zero, suc, ◌<◌, ◌==◌, ◌&&◌, not, Bool, true, false, cond, List, [], ◌∷◌, ◌++◌, length, take, get_or, Option, Some, None, refl, sym, ◌∙◌, ap, subst, append_assoc, arith}
use Rattle.std.specs.Prelude.{codes, IfSome, IsSomeAnd}
use Rattle.std.specs.Option.{option_map, option_and_then}
use Rattle.std.specs.Str.{bytes_eq}
use Rattle.std.proofs.lemmas.Slice.Eq.{bytes_eq-Decides}
use Rattle.cm_base.specs.declared.host.Flow.{Flow}
use Rattle.cm_base.specs.declared.host.Flow.TheVariants.{Input, Output}
use Rattle.cm_base.specs.declared.host.Kind.{Kind}
use Rattle.cm_base.specs.declared.host.Kind.TheVariants.{Stream, Value, Event}
use Rattle.cm_base.specs.declared.place.Place.{Place}
use Rattle.cm_tree.specs.declared.path.Path.{Path}
use Rattle.cm_tree.specs.declared.path.Word.{Word}
use Rattle.cm_tree.specs.declared.expr.Expr.{Expr}
use Rattle.cm_tree.specs.declared.expr.Expr.TheVariants as e
use Rattle.cm_tree.specs.declared.expr.Base.{Base}
use Rattle.cm_tree.specs.declared.expr.Base.TheVariants as b
use Rattle.cm_tree.specs.declared.type_expr.TypeExpr.{TypeExpr}
use Rattle.cm_tree.specs.declared.type_expr.TypeExpr.TheVariants as y
use Rattle.cm_tree.specs.declared.stmt.Stmt.{Stmt, Stmt-F, out-Stmt, roll-Stmt, roll-out-Stmt}
use Rattle.cm_tree.specs.declared.stmt.Stmt.TheOpen as o
use Rattle.cm_tree.specs.declared.stmt.Stmt.TheVariants as x
use Rattle.cm_tree.specs.declared.member.Key.{Key}
use Rattle.cm_tree.specs.declared.member.End.{End}
use Rattle.cm_tree.specs.declared.member.Member.{Member}
use Rattle.cm_tree.specs.declared.member.Member.TheVariants as m
use Rattle.cm_tree.specs.declared.decl.UnitDecl.{UnitDecl}
use Rattle.cm_tree.specs.declared.decl.Decl.{Decl}
use Rattle.cm_tree.specs.declared.decl.Decl.TheVariants as d
use Rattle.cm_tree.specs.declared.file.File.{File}
use Rattle.cm_tree.specs.Pieces.{Text}
use Rattle.cm_front.specs.Form.{IsInt, IsMainMark, IsStreamEnd, IsStream, IsPass, IsMain, IsThrough, AreNames, decls_of, HaveForm}
use Rattle.cm_front.specs.declared.form.Names.{Names as Found}
use Rattle.cm_front.specs.Reading as reading
use Rattle.cm_front.specs.Reading.{only, is_empty, is_none, is_main, is_int_base, is_int, is_stream, is_flow, bare_name, end_name, ends_name, stream_name, Endpoints, value_name, write_names, is_advance, body_names, opened_block, block_stmts, opened_loop, loop_body, loop_names, function_names, main_names, Names, is_main_mark, is_passed, passed_names, names_of, member_names, members_names, unit_names, decl_names, files_names, ◌>>=◌}

-- ---- choices and steps

both : (a c : Bool) → (a && c) ≡ true → (a ≡ true) × (c ≡ true)
both true c e = (refl, e)
both false c e = absurd (cc)

chosen : {A : Type 0} (t : Bool) (o : Option A) (y : A) → cond t o None ≡ Some y → (t ≡ true) × (o ≡ Some y)
chosen true o y e = (refl, e)
chosen false o y e = absurd (cc)

bound : {A B : Type 0} (o : Option A) (f : A → Option B) (y : B) → option_and_then f o ≡ Some y → (a : A) × (o ≡ Some a) × (f a ≡ Some y)
bound None f y e = absurd (cc)
bound (Some a) f y e = (a, refl, e)

stepped : {A B : Type 0} (o : Option A) (f : A → Option B) (y : B) → (o >>= f) ≡ Some y → (a : A) × (o ≡ Some a) × (f a ≡ Some y)
stepped None f y e = absurd (cc)
stepped (Some a) f y e = (a, refl, e)

mapped : {A B : Type 0} (o : Option A) (f : A → B) (y : B) → option_map f o ≡ Some y → (a : A) × (o ≡ Some a) × (f a ≡ y)
mapped None f y e = absurd (cc)
mapped (Some a) f y e = (a, refl, cc)

same : {A : Type 0} (a c : A) → Some a ≡ Some c → a ≡ c
same a c e = cc

only_one : {A : Type 0} (xs : List A) (a : A) → only xs ≡ Some a → xs ≡ a ∷ []
only_one [] a e = absurd (cc)
only_one (z ∷ []) a e = ap (λ w. w ∷ []) (same z a e)
only_one (z ∷ w ∷ others) a e = absurd (cc)

empty_none : {A : Type 0} (xs : List A) → is_empty xs ≡ true → xs ≡ []
empty_none [] e = refl
empty_none (z ∷ others) e = absurd (cc)

none_nothing : {A : Type 0} (o : Option A) → is_none o ≡ true → o ≡ None
none_nothing None e = refl
none_nothing (Some a) e = absurd (cc)

same_text : (a c : Text) → bytes_eq a c ≡ true → a ≡ c
same_text a c e = (bytes_eq-Decides a c).0 e

equal_text : (a c : Text) → a ≡ c → bytes_eq a c ≡ true
equal_text a c e = (bytes_eq-Decides a c).1 e

other_text : (a c : Text) → not (bytes_eq a c) ≡ true → a ≢ c
other_text a c e is = let equal : bytes_eq a c ≡ true = equal_text a c is in absurd (cc)

unequal : (t : Bool) → (t ≡ true → ⊥) → not t ≡ true
unequal true differ = absurd (differ refl)
unequal false differ = refl

unequal_text : (a c : Text) → a ≢ c → not (bytes_eq a c) ≡ true
unequal_text a c differ = unequal (bytes_eq a c) (λ is. differ (same_text a c is))

-- ---- endpoints

int_base : (base : Base) → is_int_base base ≡ true → (place : Place) × (base ≡ b.Int place)
int_base (b.Int place) e = (place, refl)
int_base _ e = absurd (cc)

int_type : (ty : TypeExpr) → is_int ty ≡ true → IsInt ty
int_type (y.Base base sizes) e =
    let t = both (is_int_base base) (is_empty sizes) e in
    let base_is = int_base base t.0 in
    record { place = base_is.0; is = ap (λ (z : Base). y.Base z sizes) base_is.1 ∙ ap (λ z. y.Base (b.Int base_is.0) z) (empty_none sizes t.1) }
int_type (y.Named path sizes) e = absurd (cc)

type_int : (ty : TypeExpr) → IsInt ty → is_int ty ≡ true
type_int ty h = rw h.is refl

stream_kind : (kind : Kind) → is_stream kind ≡ true → kind ≡ Stream
stream_kind Stream e = refl
stream_kind Value e = absurd (cc)
stream_kind Event e = absurd (cc)

same_flow : (found flow : Flow) → is_flow found flow ≡ true → found ≡ flow
same_flow Input Input e = refl
same_flow Input Output e = absurd (cc)
same_flow Output Input e = absurd (cc)
same_flow Output Output e = refl

flow_same : (flow : Flow) → is_flow flow flow ≡ true
flow_same Input = refl
flow_same Output = refl

end_found : (end : End) (name : Text) → end_name end ≡ Some name → IsStreamEnd name end
end_found end name e =
    let c = chosen (is_stream end.kind && is_int end.ty) (option_and_then bare_name (only end.names)) name e in
    let t = both (is_stream end.kind) (is_int end.ty) c.0 in
    let one = bound (only end.names) bare_name name c.1 in
    let bare = chosen (is_empty one.0.keys) (Some one.0.name.text) name one.2 in
    record {
      end_name = one.0;
      kind = stream_kind end.kind t.0;
      is_int = int_type end.ty t.1;
      is = only_one end.names one.0 one.1;
      named = same one.0.name.text name bare.1;
      bare = empty_none one.0.keys bare.0;
    }

found_end : (end : End) (name : Text) → IsStreamEnd name end → end_name end ≡ Some name
found_end end name h = rw (h.kind, type_int end.ty h.is_int, h.is, h.bare, h.named) refl

stream_found : (flow : Flow) (member : Member) (name : Text) → stream_name flow member ≡ Some name → IsStream flow name member
stream_found flow (m.Ends place found ends) name e =
    let c = chosen (is_flow found flow) (ends_name ends) name e in
    let one = bound (only ends) end_name name c.1 in
    record {
      place = place;
      end = one.0;
      is = ap (λ (z : Flow). m.Ends place z ends) (same_flow found flow c.0) ∙ ap (λ z. m.Ends place flow z) (only_one ends one.0 one.1);
      stream = end_found one.0 name one.2;
    }
stream_found flow _ name e = absurd (cc)

found_stream : (flow : Flow) (member : Member) (name : Text) → IsStream flow name member → stream_name flow member ≡ Some name
found_stream flow member name h = rw (h.is, flow_same flow) (found_end h.end name h.stream)

-- ---- `main`

value_found : (value : Expr) (name : Text) → value_name value ≡ Some name → (path : Path) × (value ≡ e.Name path) × (path.names ≡ name ∷ [])
value_found (e.Name path) name is = (path, refl, only_one path.names name is)
value_found _ name is = absurd (cc)

write_found : (stmt : Stmt) (ends : Endpoints) → write_names stmt ≡ Some ends → (to : Word) × (from : Path) × (stmt ≡ x.Write to (e.Name from)) × (to.text ≡ ends.output) × (from.names ≡ ends.input ∷ [])
write_found (x.Write to value) ends is =
    let input = mapped (value_name value) (λ (t : Text). let found : Endpoints = record { input = t; output = to.text } in found) ends is in
    let from = value_found value input.0 input.1 in
    (to, from.0, ap (λ (z : Expr). x.Write to z) from.1, ap (λ (z : Endpoints). z.output) input.2, from.2 ∙ ap (λ (z : Text). z ∷ []) (ap (λ (z : Endpoints). z.input) input.2))
write_found _ ends is = absurd (cc)

advance_found : (stmt : Stmt) → is_advance stmt ≡ true → (place : Place) × (stmt ≡ x.Advance place)
advance_found (x.Advance place) is = (place, refl)
advance_found _ is = absurd (cc)

-- the statements of a body that passes the input on
record IsBody (stmts : List Stmt) (ends : Endpoints) : Type 0 where
  to : Word
  from : Path
  advance : Place
  is : stmts ≡ x.Write to (e.Name from) ∷ x.Advance advance ∷ []
  written : to.text ≡ ends.output
  read : from.names ≡ ends.input ∷ []

body_found : (stmts : List Stmt) (ends : Endpoints) → body_names stmts ≡ Some ends → IsBody stmts ends
body_found [] ends is = absurd (cc)
body_found (first ∷ []) ends is = absurd (cc)
body_found (first ∷ second ∷ []) ends is =
    let c = chosen (is_advance second) (write_names first) ends is in
    let advance = advance_found second c.0 in
    let write = write_found first ends c.1 in
    record {
      to = write.0;
      from = write.1;
      advance = advance.0;
      is = ap (λ (z : Stmt). z ∷ second ∷ []) write.2 ∙ ap (λ (z : Stmt). x.Write write.0 (e.Name write.1) ∷ z ∷ []) advance.1;
      written = write.3;
      read = write.4;
    }
body_found (first ∷ second ∷ third ∷ others) ends is = absurd (cc)

-- a statement that opens so is so
block_found : (stmt : Stmt) (all : List Stmt) → block_stmts stmt ≡ Some all → (place : Place) × (stmt ≡ x.Block place all)
block_found stmt all is = opened (out-Stmt stmt) refl is
  where
    opened : (layer : Stmt-F Stmt) → out-Stmt stmt ≡ layer → opened_block layer ≡ Some all → (place : Place) × (stmt ≡ x.Block place all)
    opened (o.Block place found) out is =
        (place, sym (roll-out-Stmt stmt) ∙ (ap roll-Stmt out ∙ (x.rolls-Block place found ∙ ap (λ z. x.Block place z) (same found all is))))
    opened _ out is = absurd (cc)

loop_found : (stmt body : Stmt) → loop_body stmt ≡ Some body → (place : Place) × (stmt ≡ x.Loop place None body)
loop_found stmt body is = opened (out-Stmt stmt) refl is
  where
    opened : (layer : Stmt-F Stmt) → out-Stmt stmt ≡ layer → opened_loop layer ≡ Some body → (place : Place) × (stmt ≡ x.Loop place None body)
    opened (o.Loop place None found) out is =
        (place, sym (roll-out-Stmt stmt) ∙ (ap roll-Stmt out ∙ (x.rolls-Loop place None found ∙ ap (λ z. x.Loop place None z) (same found body is))))
    opened _ out is = absurd (cc)

nested : (stmts : List Stmt) (loop block : Stmt) (body made : List Stmt) (p q : Place) → stmts ≡ loop ∷ [] → loop ≡ x.Loop p None block → block ≡ x.Block q body → body ≡ made
    → stmts ≡ x.Loop p None (x.Block q made) ∷ []
nested stmts loop block body made p q one in_loop in_block are = rw (one, in_loop, in_block, are) refl

pass_found : (stmts : List Stmt) (ends : Endpoints) → loop_names stmts ≡ Some ends → IsPass ends.input ends.output stmts
pass_found stmts ends is =
    let body = bound (option_and_then block_stmts (option_and_then loop_body (only stmts))) body_names ends is in
    let block = bound (option_and_then loop_body (only stmts)) block_stmts body.0 body.1 in
    let loop = bound (only stmts) loop_body block.0 block.1 in
    let parts = body_found body.0 ends body.2 in
    let in_block = block_found block.0 body.0 block.2 in
    let in_loop = loop_found loop.0 block.0 loop.2 in
    record {
      loop = in_loop.0;
      block = in_block.0;
      advance = parts.advance;
      to = parts.to;
      from = parts.from;
      is = nested stmts loop.0 block.0 body.0 _ in_loop.0 in_block.0 (only_one stmts loop.0 loop.1) in_loop.1 in_block.1 parts.is;
      written = parts.written;
      read = parts.read;
    }

found_pass : (input output : Text) (stmts : List Stmt) → IsPass input output stmts → loop_names stmts ≡ Some (record { input = input; output = output })
found_pass input output stmts h =
    let body : List Stmt = x.Write h.to (e.Name h.from) ∷ x.Advance h.advance ∷ [] in
    let opens : loop_body (x.Loop h.loop None (x.Block h.block body)) ≡ Some (x.Block h.block body) = ap opened_loop (x.outs-Loop h.loop None (x.Block h.block body)) in
    let holds : block_stmts (x.Block h.block body) ≡ Some body = ap opened_block (x.outs-Block h.block body) in
    let names : body_names body ≡ Some (record { input = input; output = output }) = rw (h.read, h.written) refl in
    rw h.is (ap (λ z. option_and_then body_names (option_and_then block_stmts z)) opens ∙ (ap (λ z. option_and_then body_names z) holds ∙ names))

main_found : (member : Member) (ends : Endpoints) → main_names member ≡ Some ends → IsMain ends.input ends.output member
main_found (m.Function function) ends is =
    let c = chosen (is_none function.result && is_empty function.params && is_main function.name.text) (loop_names function.body.stmts) ends is in
    let t = both (is_none function.result && is_empty function.params) (is_main function.name.text) c.0 in
    let u = both (is_none function.result) (is_empty function.params) t.0 in
    record {
      function = function;
      is = refl;
      no_result = none_nothing function.result u.0;
      name = same_text function.name.text (codes "main") t.1;
      no_params = empty_none function.params u.1;
      pass = pass_found function.body.stmts ends c.1;
    }
main_found _ ends is = absurd (cc)

found_main : (member : Member) (input output : Text) → IsMain input output member → main_names member ≡ Some (record { input = input; output = output })
found_main member input output h =
    let named : is_main h.function.name.text ≡ true = equal_text h.function.name.text (codes "main") h.name in
    rw (h.is, h.no_result, h.no_params, named) (found_pass input output h.function.body.stmts h.pass)

-- ---- names

names_found : (names : Names) → reading.are_names names ≡ true → AreNames names.processor names.input names.output
names_found names is =
    let p = names.processor in
    let a = names.input in
    let b = names.output in
    let t5 = both (not (bytes_eq p a) && not (bytes_eq p b) && not (bytes_eq a b) && not (is_main p) && not (is_main a)) (not (is_main b)) is in
    let t4 = both (not (bytes_eq p a) && not (bytes_eq p b) && not (bytes_eq a b) && not (is_main p)) (not (is_main a)) t5.0 in
    let t3 = both (not (bytes_eq p a) && not (bytes_eq p b) && not (bytes_eq a b)) (not (is_main p)) t4.0 in
    let t2 = both (not (bytes_eq p a) && not (bytes_eq p b)) (not (bytes_eq a b)) t3.0 in
    let t1 = both (not (bytes_eq p a)) (not (bytes_eq p b)) t2.0 in
    record {
      processor_input = other_text p a t1.0;
      processor_output = other_text p b t1.1;
      input_output = other_text a b t2.1;
      processor_main = other_text p (codes "main") t3.1;
      input_main = other_text a (codes "main") t4.1;
      output_main = other_text b (codes "main") t5.1;
    }

found_names : (p a b : Text) → AreNames p a b → reading.are_names (record { processor = p; input = a; output = b }) ≡ true
found_names p a b h =
    rw (
      unequal_text p a h.processor_input,
      unequal_text p b h.processor_output,
      unequal_text a b h.input_output,
      unequal_text p (codes "main") h.processor_main,
      unequal_text a (codes "main") h.input_main,
      unequal_text b (codes "main") h.output_main,
    ) refl

-- ---- the processor

bare_main : (key : Key) → reading.is_bare_main key ≡ true → (key.value ≡ None) × (key.name.text ≡ codes "main")
bare_main key is = let t = both (is_none key.value) (is_main key.name.text) is in (none_nothing key.value t.0, same_text key.name.text (codes "main") t.1)

mark_found : (keys : List Key) → is_main_mark keys ≡ true → IsMainMark keys
mark_found [] is = absurd (cc)
mark_found (key ∷ []) is = let t = bare_main key is in record { key = key; is = refl; name = t.1; bare = t.0 }
mark_found (key ∷ other ∷ others) is = absurd (cc)

found_mark : (keys : List Key) → IsMainMark keys → is_main_mark keys ≡ true
found_mark keys h = let named : is_main h.key.name.text ≡ true = equal_text h.key.name.text (codes "main") h.name in rw (h.is, h.bare, named) refl

-- what three members have that pass the input of these names to their output
record AreMembers (first second third : Member) (names : Names) : Type 0 where
  input_end : IsStream Input names.input first
  output_end : IsStream Output names.output second
  main : IsMain names.input names.output third
  distinct : AreNames names.processor names.input names.output

members_found : (processor : Text) (first second third : Member) (names : Names) → member_names processor first second third ≡ Some names
    → (processor ≡ names.processor) × AreMembers first second third names
unfolding member_names
members_found processor first second third names is =
    let input = stepped (stream_name Input first) _ names is in
    let output = stepped (stream_name Output second) _ names input.2 in
    let ends = stepped (main_names third) _ names output.2 in
    let made : Names = record { processor = processor; input = input.0; output = output.0 } in
    let c = chosen (is_passed made ends.0) (Some made) names ends.2 in
    let t = both (bytes_eq input.0 ends.0.input && bytes_eq output.0 ends.0.output) (reading.are_names made) c.0 in
    let u = both (bytes_eq input.0 ends.0.input) (bytes_eq output.0 ends.0.output) t.0 in
    let pass = main_found third ends.0 ends.1 in
    let pass_input : IsMain input.0 ends.0.output third = subst (λ (z : Text). IsMain z ends.0.output third) (sym (same_text input.0 ends.0.input u.0)) pass in
    let pass_both : IsMain input.0 output.0 third = subst (λ (z : Text). IsMain input.0 z third) (sym (same_text output.0 ends.0.output u.1)) pass_input in
    let all : AreMembers first second third made = record { input_end = stream_found Input first input.0 input.1; output_end = stream_found Output second output.0 output.1; main = pass_both; distinct = names_found made t.1 } in
    (ap (λ (z : Names). z.processor) (same made names c.1), subst (λ (z : Names). AreMembers first second third z) (same made names c.1) all)

found_members : (p a b : Text) (first second third : Member) → IsStream Input a first → IsStream Output b second → IsMain a b third → AreNames p a b
    → member_names p first second third ≡ Some (record { processor = p; input = a; output = b })
unfolding member_names
found_members p a b first second third input output main names =
    rw (found_stream Input first a input, found_stream Output second b output, found_main third a b main, equal_text a a refl, equal_text b b refl, found_names p a b names) refl

unit_found : (unit_decl : UnitDecl) (names : Names) → unit_names unit_decl ≡ Some names → IsThrough names.processor names.input names.output unit_decl × AreNames names.processor names.input names.output
unit_found unit_decl names is =
    let c = chosen (is_empty unit_decl.params && is_main_mark unit_decl.keys) (members_names unit_decl.name.text unit_decl.members) names is in
    let t = both (is_empty unit_decl.params) (is_main_mark unit_decl.keys) c.0 in
    by_members unit_decl.members refl c.1 t.0 t.1
  where
    by_members : (members : List Member) → unit_decl.members ≡ members → members_names unit_decl.name.text members ≡ Some names → is_empty unit_decl.params ≡ true → is_main_mark unit_decl.keys ≡ true
        → IsThrough names.processor names.input names.output unit_decl × AreNames names.processor names.input names.output
    by_members [] are e params keys = absurd (cc)
    by_members (first ∷ []) are e params keys = absurd (cc)
    by_members (first ∷ second ∷ []) are e params keys = absurd (cc)
    by_members (first ∷ second ∷ third ∷ []) are e params keys =
        let found = members_found unit_decl.name.text first second third names e in (
          record {
            first = first;
            second = second;
            third = third;
            named = found.0;
            no_params = empty_none unit_decl.params params;
            mark = mark_found unit_decl.keys keys;
            is = are;
            input_end = found.1.input_end;
            output_end = found.1.output_end;
            main = found.1.main;
          },
          found.1.distinct,
        )
    by_members (first ∷ second ∷ third ∷ fourth ∷ others) are e params keys = absurd (cc)

found_unit : (unit_decl : UnitDecl) (p a b : Text) → IsThrough p a b unit_decl → AreNames p a b → unit_names unit_decl ≡ Some (record { processor = p; input = a; output = b })
found_unit unit_decl p a b h names =
    rw (h.no_params, found_mark unit_decl.keys h.mark, h.is, h.named) (found_members p a b h.first h.second h.third h.input_end h.output_end h.main names)

decl_found : (decl : Decl) (names : Names) → decl_names decl ≡ Some names
    → (unit_decl : UnitDecl) × (decl ≡ d.Processor unit_decl) × IsThrough names.processor names.input names.output unit_decl × AreNames names.processor names.input names.output
decl_found (d.Processor unit_decl) names is = let found = unit_found unit_decl names is in (unit_decl, refl, found.0, found.1)
decl_found _ names is = absurd (cc)

-- ---- the files

pub form_found : (files : List File) (names : Names) → files_names files ≡ Some names → HaveForm files names.processor names.input names.output
unfolding files_names
form_found files names is =
    let one = bound (only (decls_of files)) decl_names names is in
    let found = decl_found one.0 names one.2 in
    record { unit_decl = found.0; is = only_one (decls_of files) one.0 one.1 ∙ ap (λ (z : Decl). z ∷ []) found.1; through = found.2; names = found.3 }

pub found_form : (files : List File) (p a b : Text) → HaveForm files p a b → files_names files ≡ Some (record { processor = p; input = a; output = b })
unfolding files_names
found_form files p a b h = rw h.is (found_unit h.unit_decl p a b h.through h.names)

-- what the code finds
pub found : (result : Option Found) (files : List File) → option_map names_of result ≡ files_names files → IfSome result (λ n. HaveForm files n.processor.now n.input.now n.output.now)
found None files finds = tt
found (Some names) files finds = form_found files (names_of names) (sym finds)

same_names : (a c : Names) → Some a ≡ Some c → (a.processor ≡ c.processor) × (a.input ≡ c.input) × (a.output ≡ c.output)
same_names a c is = let all : a ≡ c = same a c is in (ap (λ (n : Names). n.processor) all, ap (λ (n : Names). n.input) all, ap (λ (n : Names). n.output) all)

pub only_names : (result : Option Found) (files : List File) (p a b : Text) → option_map names_of result ≡ files_names files → HaveForm files p a b
    → IsSomeAnd result (λ n. (n.processor.now ≡ p) × (n.input.now ≡ a) × (n.output.now ≡ b))
only_names None files p a b finds form = let reads = found_form files p a b form in absurd (cc)
only_names (Some names) files p a b finds form = same_names (names_of names) (record { processor = p; input = a; output = b }) (finds ∙ found_form files p a b form)

-- ---- more than one declaration

-- the declarations up to a file, its own, and others
split_at_file : (files : List File) (i : ℕ) (file : File) → i < length files → file ≡ get_or files i file → (rest : List Decl) × (decls_of files ≡ decls_of (take i files) ++ (file.decls ++ rest))
split_at_file [] i file within is = absurd (omega arith)
split_at_file (first ∷ files) zero file within is = (decls_of files, ap (λ (z : File). z.decls ++ decls_of files) (sym is))
split_at_file (first ∷ files) (suc i) file within is =
    let later = split_at_file files i file (omega arith) is in
    (later.0, ap (λ (z : List Decl). first.decls ++ z) later.1 ∙ sym (append_assoc first.decls (decls_of (take i files)) (file.decls ++ later.0)))

not_only : (found decls rest : List Decl) → false ≡ (length found == 0) → false ≡ (length decls == 0) → None ≡ only (found ++ (decls ++ rest))
not_only [] decls rest some more = absurd (cc)
not_only (a ∷ found) [] rest some more = absurd (cc)
not_only (a ∷ []) (c ∷ decls) rest some more = refl
not_only (a ∷ z ∷ found) (c ∷ decls) rest some more = refl

pub two_decls : (files : List File) (i : ℕ) (file : File) (found decls : List Decl) → i < length files → file ≡ get_or files i file → decls_of (take i files) ≡ found → decls ≡ file.decls
    → false ≡ (length found == 0) → false ≡ (length decls == 0) → None ≡ only (decls_of files)
two_decls files i file found decls within is so_far are some more =
    let split = split_at_file files i file within is in
    not_only found decls split.0 some more
    ∙ ap (λ (z : List Decl). only z) (ap (λ (z : List Decl). z ++ (decls ++ split.0)) (sym so_far) ∙ (ap (λ (z : List Decl). decls_of (take i files) ++ (z ++ split.0)) are ∙ sym split.1))
