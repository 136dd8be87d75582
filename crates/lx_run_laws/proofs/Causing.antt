-- What has a cause is refused.
use Rattle.std.proofs.Common.{◌≡◌, ⊎_elim, ℕ, zero, suc, true, false, not, ◌&&◌, ◌||◌, Option, Some, None, List, refl, sym, ap, ap₂, subst, ◌∙◌, slice_get, option_and_then}
use Rattle.std.proofs.lemmas.Option.{same_Some}
use Rattle.lx_words.specs.Width.{byte_count}
use Rattle.lx_words.specs.Word.{Word}
use Rattle.lx_words.proofs.Tests.{first_of, second_of}
use Rattle.lx_caps.specs.declared.Principal.{Principal}
use Rattle.lx_caps.specs.declared.Principal.TheVariants.{Kernel, Shared, Global, Inst}
use Rattle.lx_caps.specs.declared.Cap.{Cap}
use Rattle.lx_caps.specs.declared.Cap.TheVariants as cap
use Rattle.lx_caps.specs.History.{holds, keeps_all}
use Rattle.lx_caps.specs.Memory.{number_at}
use Rattle.lx_caps.specs.Regions.{mapped}
use Rattle.lx_annot.specs.declared.expr.Env.{Env}
use Rattle.lx_annot.specs.Action.{Action}
use Rattle.lx_model.specs.declared.program.Program.{Program}
use Rattle.lx_model.specs.declared.request.Outcome.{Outcome}
use Rattle.lx_model.specs.declared.request.Outcome.TheVariants.{Refused, Trapped}
use Rattle.lx_model.specs.declared.request.Refusal.{Refusal}
use Rattle.lx_model.specs.declared.request.Refusal.TheVariants as refusal
use Rattle.lx_model.specs.declared.request.Trap.TheVariants.{Signature}
use Rattle.lx_model.specs.declared.request.Request.{Request}
use Rattle.lx_model.specs.declared.request.Way.{Way}
use Rattle.lx_model.specs.declared.request.Way.TheVariants.{Script, Direct, Indirect, Slot}
use Rattle.lx_model.specs.declared.request.What.{What}
use Rattle.lx_model.specs.declared.request.What.TheVariants as what
use Rattle.lx_model.specs.Act.{or_else, unless, unmapped, not_held, first_refusal}
use Rattle.lx_model.specs.Authority.{is_module}
use Rattle.lx_model.specs.Decide.{decide, decide_native, decide_alias, decide_write, decide_what, unless_mapped, outcome_of, result_or_none}
use Rattle.lx_model.specs.Enter.{by_writers, decide_enter, decide_slot, decide_target, fits_params, nobody, not_annotated, slot_signature, slot_writers, text_of_principal}
use Rattle.lx_model.specs.Next.{actions_of}
use Rattle.lx_model.specs.Program.{NativeCall, function_at}
use Rattle.lx_model.specs.State.{State}
use Rattle.lx_run_laws.specs.Authorised.{needs, needs_of_way}
use Rattle.lx_run_laws.specs.Errands.{Errand, errand_of, errand_of_action, is_placed, is_on_stacks, is_in_memory}
use Rattle.lx_run_laws.specs.Causes.{IsReached, IsLack, IsUnannotated, IsOtherwise, IsWriterLack, IsMisnamed, IsCauseOf, is_known_in, may_name}
use Rattle.lx_run_laws.proofs.Decisions.{at_test, at_first, at_first_test, both_fail, neither_holds}
use Rattle.lx_run_laws.proofs.Items.{asked, errand_refusal, at_item, item_is, item_row, on_a_stack, out_of_memory}
use Rattle.lx_run_laws.proofs.Refusing.{alias_is}
use Rattle.lx_run_laws.proofs.Slots.{lacks_refused, other_refused, stands, unknown_refused}
use Rattle.lx_model.proofs.Passing.{passed_on}

-- what a module's own write or call needs

write_refused : (s : State) (who : Principal) (at size : ℕ) → is_module who ≡ true → holds s.history who (cap.Write at size) ≡ false
    → decide_write s who at size ≡ Some (not_held who (cap.Write at size))
write_refused s Kernel at size of_module lack = absurd (cc)
write_refused s (Shared m) at size of_module lack = at_test (holds s.history (Shared m) (cap.Write at size)) _ lack
write_refused s (Global m) at size of_module lack = at_test (holds s.history (Global m) (cap.Write at size)) _ lack
write_refused s (Inst m k) at size of_module lack = at_test (holds s.history (Inst m k) (cap.Write at size)) _ lack

-- where the need is this one, and it is not held, the decision is this one
abbrev LackDecides : State → Principal → Option Cap → Option Outcome → Type 0
LackDecides s who need d = (c : Cap) → need ≡ Some c → holds s.history who c ≡ false → d ≡ Some (not_held who c)

by_need : (s : State) (who : Principal) (b : Cap) (d : Option Outcome) → (holds s.history who b ≡ false → d ≡ Some (not_held who b)) → LackDecides s who (Some b) d
by_need s who b d go c is lack =
    subst (λ (x : Cap). holds s.history who x ≡ false → d ≡ Some (not_held who x)) (same_Some b c is) go lack

way_refused : (p : Program) (s : State) (who : Principal) (way : Way) (args : List Word) → LackDecides s who (needs_of_way way) (decide_enter p s who way args)
way_refused p s who (Script n) args c is lack = absurd (cc)
way_refused p s who (Direct n) args c is lack = absurd (cc)
way_refused p s who (Indirect a) args c is lack =
    by_need s who (cap.Call a) (decide_enter p s who (Indirect a) args)
    (λ none. at_first_test (holds s.history who (cap.Call a)) (Refused (refusal.Call who a)) (decide_target p s who a args (function_at p a)) none)
    c is lack
way_refused p s who (Slot slot ty) args c is lack = absurd (cc)

pub own_refused : (p : Program) (s : State) (t : ℕ) (who : Principal) (w : What) → is_module who ≡ true → LackDecides s who (needs w) (decide_what p s t who w)
own_refused p s t who (what.Load at width) of_module c is lack = absurd (cc)
own_refused p s t who (what.Store at v) of_module c is lack =
    by_need s who (cap.Write at (byte_count v.width)) (decide_write s who at (byte_count v.width)) (write_refused s who at (byte_count v.width) of_module) c is lack
own_refused p s t who (what.Copy to from zero) of_module c is lack = absurd (cc)
own_refused p s t who (what.Copy to from (suc len)) of_module c is lack =
    by_need s who (cap.Write to (suc len)) (or_else (decide_write s who to (suc len)) (unless_mapped from (suc len)))
    (λ none. at_first (decide_write s who to (suc len)) (unless_mapped from (suc len)) _ (write_refused s who to (suc len) of_module none))
    c is lack
own_refused p s t who (what.Fill to byte len) of_module c is lack =
    by_need s who (cap.Write to len) (decide_write s who to len) (write_refused s who to len of_module) c is lack
own_refused p s t who (what.Alloca at size) of_module c is lack = absurd (cc)
own_refused p s t who (what.Enter way args) of_module c is lack = way_refused p s who way args c is lack
own_refused p s t who (what.Perform n post k env source dest) of_module c is lack = absurd (cc)
own_refused p s t who (what.Return low high) of_module c is lack = absurd (cc)
own_refused p s t who (what.Native k args) of_module c is lack = absurd (cc)
own_refused p s t who (what.Finish o) of_module c is lack = absurd (cc)

-- items

action_decides : (p : Program) (s : State) (t : ℕ) (found : Option Action) (env : Env) (source dest : Principal) (e : Errand)
    → option_and_then (λ a. errand_of_action p.interface a env source s.memory) found ≡ Some e
    → outcome_of (result_or_none p s t found env source dest) ≡ errand_refusal s.history e
action_decides p s t None env source dest e is = absurd (cc)
action_decides p s t (Some a) env source dest e is = (asked p.interface a env t source dest s.memory s.history).0 e is

pub errand_decides : (p : Program) (s : State) (t : ℕ) (who : Principal) (w : What) (e : Errand) → errand_of p s w ≡ Some e → decide_what p s t who w ≡ errand_refusal s.history e
errand_decides p s t who (what.Load at width) e is = absurd (cc)
errand_decides p s t who (what.Store at v) e is = absurd (cc)
errand_decides p s t who (what.Copy to from len) e is = absurd (cc)
errand_decides p s t who (what.Fill to byte len) e is = absurd (cc)
errand_decides p s t who (what.Alloca at size) e is = absurd (cc)
errand_decides p s t who (what.Enter way args) e is = absurd (cc)
errand_decides p s t who (what.Perform n post k env source dest) e is = action_decides p s t (slice_get (actions_of p n post) k) env source dest e is
errand_decides p s t who (what.Return low high) e is = absurd (cc)
errand_decides p s t who (what.Native k args) e is = absurd (cc)
errand_decides p s t who (what.Finish o) e is = absurd (cc)

-- an item that is reached, and refused, decides
module _ (p : Program) (s : State) (t : ℕ) (r : Request) (who : Principal) (e : Errand) (c : Cap) (reached : IsReached p s r.what who e c) where
  -- with the tests of the item in the name of the action's source
  row_decides : (o : Outcome) → item_row s.history e c ≡ Some o → decide p s t r ≡ Some o
  row_decides o is =
      errand_decides p s t r.who r.what e reached.performed
      ∙ (ap (λ (items : List Cap). first_refusal s.history e.transfers e.gives e.source items) reached.place
      ∙ at_item s.history e reached.before c reached.after o reached.fine (item_is s.history e c ∙ is))

  out_decides : is_in_memory c ≡ false → decide p s t r ≡ Some (out_of_memory who c)
  out_decides out =
      subst (λ (q : Principal). decide p s t r ≡ Some (out_of_memory q c)) reached.source
      (row_decides (out_of_memory e.source c) (at_first_test (is_in_memory c) (out_of_memory e.source c) _ out))

  stack_decides : is_in_memory c ≡ true → e.transfers ≡ true → is_on_stacks c ≡ true → decide p s t r ≡ Some (on_a_stack who c)
  stack_decides in_memory transfers on =
      subst (λ (q : Principal). decide p s t r ≡ Some (on_a_stack q c)) reached.source
      (row_decides (on_a_stack e.source c)
      (passed_on (is_in_memory c) (out_of_memory e.source c) _ _ in_memory
      (at_first_test (not (e.transfers && is_on_stacks c)) (on_a_stack e.source c) _ (both_fail e.transfers (is_on_stacks c) transfers on))))

  placed_decides : (o : Outcome) → is_placed e c ≡ true
      → or_else (unless (holds s.history e.source c) (not_held e.source c)) (unless (not e.gives || keeps_all s.history e.source c) (Refused (refusal.Borrowed e.source c))) ≡ Some o
      → decide p s t r ≡ Some o
  placed_decides o placed is =
      row_decides o
      (passed_on (is_in_memory c) (out_of_memory e.source c) o _ (first_of (is_in_memory c) (not (e.transfers && is_on_stacks c)) placed)
      (passed_on (not (e.transfers && is_on_stacks c)) (on_a_stack e.source c) o _ (second_of (is_in_memory c) (not (e.transfers && is_on_stacks c)) placed) is))

  lack_decides : is_placed e c ≡ true → holds s.history who c ≡ false → decide p s t r ≡ Some (not_held who c)
  lack_decides placed =
      subst (λ (q : Principal). holds s.history q c ≡ false → decide p s t r ≡ Some (not_held q c)) reached.source
      (λ lack. placed_decides (not_held e.source c) placed (at_first_test (holds s.history e.source c) (not_held e.source c) _ lack))

  loan_decides : is_placed e c ≡ true → holds s.history who c ≡ true → e.gives ≡ true → keeps_all s.history who c ≡ false → decide p s t r ≡ Some (Refused (refusal.Borrowed who c))
  loan_decides placed held gives =
      subst (λ (q : Principal). holds s.history q c ≡ true → keeps_all s.history q c ≡ false → decide p s t r ≡ Some (Refused (refusal.Borrowed q c))) reached.source
      (λ is loan. placed_decides (Refused (refusal.Borrowed e.source c)) placed
      (passed_on (holds s.history e.source c) (not_held e.source c) _ _ is
      (at_test (not e.gives || keeps_all s.history e.source c) (Refused (refusal.Borrowed e.source c)) (neither_holds e.gives (keeps_all s.history e.source c) gives loan))))
      held

lack_is : (p : Program) (s : State) (t : ℕ) (r : Request) (who : Principal) (c : Cap) → IsLack p s r who c → decide p s t r ≡ Some (not_held who c)
lack_is p s t r who c lack =
    ⊎_elim
    (λ own. subst (λ (q : Principal). is_module q ≡ true → holds s.history q c ≡ false → decide p s t r ≡ Some (not_held q c)) own.caller
    (λ of_module none. own_refused p s t r.who r.what of_module c own.need none) own.of_module own.lack)
    (λ item. lack_decides p s t r who item.0 c item.1 item.2 item.3)
    lack

-- calls

target_unknown : (p : Program) (s : State) (who : Principal) (a : ℕ) (args : List Word) (target : Option ℕ) → stands (is_known_in p (text_of_principal who)) target ≡ false
    → decide_target p s who a args target ≡ Some (not_annotated who a)
target_unknown p s who a args None is = refl
target_unknown p s who a args (Some n) is =
    at_first_test (is_known_in p (text_of_principal who) n) (not_annotated who a) (or_else (unless (fits_params p args n) (Trapped (Signature a))) (nobody p s who (Indirect a) n args)) is

slot_decides : (p : Program) (s : State) (who : Principal) (slot ty : ℕ) (args : List Word) (at : ℕ) (o : Outcome) → mapped slot 8 ≡ true → number_at s.memory slot 8 ≡ at
    → by_writers p s who slot ty at (function_at p at) (slot_writers p s slot) ≡ Some o → decide_enter p s who (Slot slot ty) args ≡ Some o
slot_decides p s who slot ty args at o lies address is =
    passed_on (mapped slot 8) (unmapped slot) o (decide_slot p s who slot ty (number_at s.memory slot 8) args) lies
    (subst (λ (a : ℕ). decide_slot p s who slot ty a args ≡ Some o) (sym address)
    (at_first (by_writers p s who slot ty at (function_at p at) (slot_writers p s slot)) (slot_signature p s who (Slot slot ty) ty at args (function_at p at)) o is))

unannotated_way : (p : Program) (s : State) (who : Principal) (way : Way) (args : List Word) (at : ℕ) → IsUnannotated p s who (what.Enter way args) at
    → decide_enter p s who way args ≡ Some (not_annotated who at)
unannotated_way p s who (Script n) args at is = absurd is
unannotated_way p s who (Direct n) args at is = absurd is
unannotated_way p s who (Indirect a) args at is =
    subst (λ (b : ℕ). decide_enter p s who (Indirect b) args ≡ Some (not_annotated who at)) (sym is.0)
    (passed_on (holds s.history who (cap.Call at)) (Refused (refusal.Call who at)) _ (decide_target p s who at args (function_at p at)) is.1
    (target_unknown p s who at args (function_at p at) is.2))
unannotated_way p s who (Slot slot ty) args at is =
    slot_decides p s who slot ty args at _ is.0.lies is.0.address (unknown_refused p s who slot ty at (function_at p at) (slot_writers p s slot) is.0.held is.1)

unannotated : (p : Program) (s : State) (t : ℕ) (who : Principal) (w : What) (at : ℕ) → IsUnannotated p s who w at → decide_what p s t who w ≡ Some (not_annotated who at)
unannotated p s t who (what.Load a width) at is = absurd is
unannotated p s t who (what.Store a v) at is = absurd is
unannotated p s t who (what.Copy to from len) at is = absurd is
unannotated p s t who (what.Fill to byte len) at is = absurd is
unannotated p s t who (what.Alloca a size) at is = absurd is
unannotated p s t who (what.Enter way args) at is = unannotated_way p s who way args at is
unannotated p s t who (what.Perform n post k env source dest) at is = absurd is
unannotated p s t who (what.Return low high) at is = absurd is
unannotated p s t who (what.Native k args) at is = absurd is
unannotated p s t who (what.Finish o) at is = absurd is

otherwise : (p : Program) (s : State) (t : ℕ) (who : Principal) (w : What) (at ty n : ℕ) → IsOtherwise p s w at ty n
    → decide_what p s t who w ≡ Some (Refused (refusal.OtherAnnotation who at ty n))
otherwise p s t who w at ty n is =
    ap (decide_what p s t who) is.asked
    ∙ slot_decides p s who is.slot ty is.args at _ is.call.lies is.call.address
    (other_refused p s who is.slot ty at (function_at p at) (slot_writers p s is.slot) n is.written is.call.held is.target is.annotated is.differs)

writer_lacks : (p : Program) (s : State) (t : ℕ) (caller : Principal) (w : What) (who : Principal) (at slot : ℕ) → IsWriterLack p s w who at slot
    → decide_what p s t caller w ≡ Some (Refused (refusal.Writer who at slot))
writer_lacks p s t caller w who at slot is =
    ap (decide_what p s t caller) is.asked
    ∙ slot_decides p s caller slot is.ty is.args at _ is.lies is.address
    (lacks_refused p s caller slot is.ty at (function_at p at) (slot_writers p s slot) who is.first)

-- names

misnamed : (p : Program) (s : State) (t : ℕ) (who : Principal) (w : What) (known further : ℕ) → IsMisnamed s w who known further
    → decide_what p s t who w ≡ Some (Refused (refusal.Alias who known further))
misnamed p s t who w known further is =
    ap (decide_what p s t who) is.asked
    ∙ (ap (λ (native : NativeCall). decide_native s who native is.args) is.alias
    ∙ (ap₂ (λ (a b : ℕ). decide_alias s who (text_of_principal who) a b) is.names_known is.names_further
    ∙ (alias_is s who (text_of_principal who) known further ∙ at_test (may_name s who (text_of_principal who) known further) _ is.barred)))

-- what is decided of the caller is decided of the one who is named
of_caller : (p : Program) (s : State) (t : ℕ) (r : Request) (who : Principal) (o : Principal → Outcome) → r.who ≡ who → decide_what p s t who r.what ≡ Some (o who)
    → decide p s t r ≡ Some (o who)
of_caller p s t r who o caller is = ap (λ (q : Principal). decide_what p s t q r.what) caller ∙ is

pub is_decided : (p : Program) (s : State) (t : ℕ) (r : Request) (x : Refusal) → IsCauseOf p s r x → decide p s t r ≡ Some (Refused x)
is_decided p s t r (refusal.Write who at size) cause = lack_is p s t r who (cap.Write at size) cause
is_decided p s t r (refusal.Call who at) cause = lack_is p s t r who (cap.Call at) cause
is_decided p s t r (refusal.Ref who ty at) cause = lack_is p s t r who (cap.Ref ty at) cause
is_decided p s t r (refusal.NotAnnotated who at) cause = of_caller p s t r who (λ q. not_annotated q at) cause.0 (unannotated p s t who r.what at cause.1)
is_decided p s t r (refusal.OtherAnnotation who at ty n) cause =
    of_caller p s t r who (λ q. Refused (refusal.OtherAnnotation q at ty n)) cause.0 (otherwise p s t who r.what at ty n cause.1)
is_decided p s t r (refusal.Writer who at slot) cause = writer_lacks p s t r.who r.what who at slot cause
is_decided p s t r (refusal.OnStack who at size) cause = stack_decides p s t r who cause.0 (cap.Write at size) cause.1 cause.3 cause.2 cause.4
is_decided p s t r (refusal.Outside who at size) cause = out_decides p s t r who cause.0 (cap.Write at size) cause.1 cause.2
is_decided p s t r (refusal.Alias who known further) cause =
    of_caller p s t r who (λ q. Refused (refusal.Alias q known further)) cause.0 (misnamed p s t who r.what known further cause.1)
is_decided p s t r (refusal.Borrowed who c) cause = loan_decides p s t r who cause.0 c cause.1 cause.2 cause.3 cause.4 cause.5
