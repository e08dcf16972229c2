-- The command has no subcommand, so the words that it refuses are refused for one cause.
use Rattle.std.proofs.Common.{
  ◌≡◌,
  ◌≤◌,
  ◌&&◌,
  ◌||◌,
  ◌==◌,
  ltb,
  ℕ,
  Bool,
  cond,
  true,
  false,
  not,
  zero,
  suc,
  refl,
  arith,
  List,
  [],
  ◌∷◌,
  length,
  drop,
  Option,
  Some,
  None,
  is_some,
  sym,
  ap,
  subst,
  inl,
  inr,
}
use Rattle.std.specs.Prelude.{encode_utf8, slice_get}
use Rattle.std.specs.Option.{option_map_or}
use Rattle.std.specs.Str.{bytes_eq, chars}
use Rattle.clap.specs.Lexer.{long_of, short_of}
use Rattle.clap.specs.Values.{refused_kind}
use Rattle.clap.specs.ValueTests.{accepts}
use Rattle.clap.specs.Facts.{parser_of_value, unwrap_or_range}
use Rattle.clap.specs.Walk.{
  Held,
  Row,
  Rule,
  Step,
  Text,
  Waiting,
  Walk,
  action_of,
  arg_by_id,
  arg_by_index,
  arg_by_long,
  arg_by_short,
  attached_value,
  has_row,
  is_empty,
  nothing_held,
  is_pending,
  most_values,
  reacted,
  settled,
  subcommand_met,
  takes_several,
  takes_values,
  values_or_missing,
  walk,
  walk_from,
  walked,
  with_default,
  word_met,
}
use Rattle.clap.specs.Walk as walks
use Rattle.clap.specs.Simple.{Shape, built}
use Rattle.clap.specs.Kinds.{
  IsAmong,
  Kinds,
  check_kinds,
  or_else,
  range_kinds,
  request_kinds,
  value_kinds,
  values_kinds,
}
use Rattle.clap.specs.Faults.{
  action_fault,
  bundle_step_fault,
  count_fault,
  default_fault,
  defaults_fault,
  fault_of,
  flag_word_fault,
  flags_fault,
  level_fault,
  long_fault,
  option_fault,
  other_fault,
  react_fault,
  repeat_fault,
  set_fault,
  settle_fault,
  short_fault,
  step_fault,
  stray_fault,
  turn_fault,
  use_fault,
  values_fault,
  walk_fault,
  word_fault,
}
use Rattle.clap.proofs.FaultLemmas.{leaf_fault}
use Rattle.command_line.specs.Command.{app, by_kinds, refused_for}
use Rattle.clap.specs.declared.builder.action.ArgAction.{ArgAction}
use Rattle.clap.specs.declared.builder.action.ArgAction.TheVariants as action
use Rattle.clap.specs.declared.builder.value_parser.ValueParser.{ValueParser}
use Rattle.clap.specs.declared.error.kind.ErrorKind.{ErrorKind}
use Rattle.clap.specs.declared.error.kind.ErrorKind.TheVariants as kind

abbrev Single : Kinds → Type 0
Single kinds = length kinds ≤ 1

none : Single []
none = omega arith

one : (k : ErrorKind) → Single (k ∷ [])
one k = omega arith

unless : (t : Bool) (k : ErrorKind) → Single (cond t [] (k ∷ []))
unless true k = none
unless false k = one k

where_ : (t : Bool) (k : ErrorKind) → Single (cond t (k ∷ []) [])
where_ true k = one k
where_ false k = none

choice : (t : Bool) (a b : Kinds) → Single a → Single b → Single (cond t a b)
choice true a b x y = x
choice false a b x y = y

or : (a b : Kinds) → Single a → Single b → Single (or_else a b)
or [] b x y = y
or (k ∷ ks) b x y = x

maybe : {X : Type 0} (f : X → Kinds) (o : Option X) (z : Kinds) → ((x : X) → Single (f x)) → Single z → Single (option_map_or f o z)
maybe f None z each rest = rest
maybe f (Some x) z each rest = each x

-- one use of an argument
values : (i : Bool) (p : ValueParser) (vs : List Text) → Single (values_kinds i p vs)
values i p [] = none
values i p (v ∷ vs) = or (value_kinds i p v) (values_kinds i p vs) (unless (accepts i p v) (refused_kind p)) (values i p vs)

range : (least most n : ℕ) → Single (range_kinds least most n)
range least most n =
    choice (ltb 0 least && n == 0) _ _ (one kind.InvalidValue)
    (choice (least == most) _ _ (unless (least == n) kind.WrongNumberOfValues)
    (choice (ltb n least) _ _ (one kind.TooFewValues) (where_ (ltb most n) kind.TooManyValues)))

request : (x : ArgAction) → Single (request_kinds x)
request action.Set = none
request action.Append = none
request action.SetTrue = none
request action.SetFalse = none
request action.Count = none
request action.Help = one kind.DisplayHelp
request action.HelpShort = one kind.DisplayHelp
request action.HelpLong = one kind.DisplayHelp
request action.Version = one kind.DisplayVersion

counted : (a : Rule) (vs : List Text) (rows : List Row) → Single (count_fault a vs rows)
counted a [] rows = unless (accepts a.ignore_case (parser_of_value a.parser) _) (refused_kind (parser_of_value a.parser))
counted a (v ∷ vs) rows = values a.ignore_case (parser_of_value a.parser) (v ∷ vs)

set_ : (again : Bool) (a : Rule) (vs : List Text) (rows : List Row) → Single (set_fault again a vs rows)
set_ again a vs rows =
    or (repeat_fault again a.id rows) (values_fault a vs) (where_ (has_row a.id rows && not again) kind.ArgumentConflict)
    (values a.ignore_case (parser_of_value a.parser) vs)

acted : (x : ArgAction) (again : Bool) (a : Rule) (vs : List Text) (rows : List Row) → Single (action_fault x again a vs rows)
acted action.Set again a vs rows = set_ again a vs rows
acted action.Append again a vs rows = values a.ignore_case (parser_of_value a.parser) vs
acted action.SetTrue again a vs rows = set_ again a vs rows
acted action.SetFalse again a vs rows = set_ again a vs rows
acted action.Count again a vs rows = counted a vs rows
acted action.Help again a vs rows = request action.Help
acted action.HelpShort again a vs rows = request action.HelpShort
acted action.HelpLong again a vs rows = request action.HelpLong
acted action.Version again a vs rows = request action.Version

used : (again : Bool) (a : Rule) (vs : List Text) (rows : List Row) → Single (use_fault again a vs rows)
used again a vs rows =
    or (range_kinds (unwrap_or_range a.range).start_inclusive (most_values a) (length vs)) _
    (range (unwrap_or_range a.range).start_inclusive (most_values a) (length vs))
    (acted (action_of a) again a (values_or_missing a vs) rows)

-- the walk
settle : (c : List Rule) (again : Bool) (h : Held) → Single (settle_fault c again h)
settle c again h =
    maybe _ h.pending [] (λ p. maybe _ (arg_by_id c p.0) [] (λ a. used again a p.1 h.rows) none) none

react : (c : List Rule) (again : Bool) (a : Rule) (vs : List Text) (h : Held) → Single (react_fault c again a vs h)
react c again a vs h = or (settle_fault c again h) _ (settle c again h) (used again a vs (settled c h).rows)

option : (c : List Rule) (again : Bool) (a : Rule) (v : Option Text) (h : Held) → Single (option_fault c again a v h)
option c again a (Some v) h = react c again a (v ∷ []) h
option c again a None h = settle c again h

long : (c : List Rule) (again : Bool) (a : Option Rule) (v : Option Text) (h : Held) → Single (long_fault c again a v h)
long c again None v h = one kind.UnknownArgument
long c again (Some a) v h =
    choice (takes_values a) _ _ (option c again a v h) (choice (is_some v) _ _ (one kind.TooManyValues) (react c again a [] h))

short : (c : List Rule) (again : Bool) (a : Option Rule) (rest : Text) (h : Held) (next : Held → Kinds) → ((x : Held) → Single (next x))
    → Single (short_fault c again a rest h next)
short c again None rest h next each = one kind.UnknownArgument
short c again (Some a) rest h next each =
    choice (takes_values a) _ _ (option c again a (attached_value rest) h)
    (or (react_fault c again a [] h) _ (react c again a [] h) (each (reacted c a [] h)))

bundled : (c : List Rule) (again : Bool) (x : Option ℕ) (flags : Text) (skip : ℕ) (h : Held) (next : Text → ℕ → Held → Kinds)
    → ((t : Text) (s : ℕ) (y : Held) → Single (next t s y)) → Single (bundle_step_fault c again x flags skip h next)
bundled c again None flags skip h next each = none
bundled c again (Some x) flags zero h next each =
    let rest = drop (length (encode_utf8 x)) flags in short c again (arg_by_short c x) rest h (next rest 0) (each rest 0)
bundled c again (Some x) flags (suc skip) h next each = each (drop (length (encode_utf8 x)) flags) skip h

flags_ : (c : List Rule) (again : Bool) (k : ℕ) (flags : Text) (skip : ℕ) (h : Held) → Single (flags_fault c again k flags skip h)
unfolding flags_fault
flags_ c again zero flags skip h = none
flags_ c again (suc k) flags skip h =
    bundled c again (slice_get (chars flags) 0) flags skip h (flags_fault c again k) (λ t s y. flags_ c again k t s y)

flag_word : (c : List Rule) (again : Bool) (p : Option (Text × Option Text)) (word : Text) (h : Held) → Single (flag_word_fault c again p word h)
flag_word c again (Some p) word h = long c again (arg_by_long c p.0) p.1 h
flag_word c again None word h =
    maybe _ (short_of word) [] (λ flags. flags_ c again (length flags) flags h.skip (record h { skip = 0 })) none

-- without subcommands no word is one
other : (s : Shape) (waiting : Waiting) (word : Text) (h : Held) → Single (other_fault s (subcommand_met [] waiting word) word h)
other s walks.idle word h = choice (bytes_eq word (45 ∷ 45 ∷ [])) [] _ none (flag_word s.rules s.args_override_self (long_of word) word h)
other s (walks.option id) word h = choice (bytes_eq word (45 ∷ 45 ∷ [])) [] _ none (flag_word s.rules s.args_override_self (long_of word) word h)
other s walks.positional word h = choice (bytes_eq word (45 ∷ 45 ∷ [])) [] _ none (flag_word s.rules s.args_override_self (long_of word) word h)

stray : (s : Shape) → s.is_leaf ≡ true → Single (stray_fault s)
stray s leaf = rw leaf (one kind.UnknownArgument)

step : (s : Shape) → s.is_leaf ≡ true → (position : ℕ) (h : Held) (x : Step) → Single (step_fault s position h x)
step s leaf position h (walks.next waiting) = none
step s leaf position h (walks.trailing at) = none
step s leaf position h (walks.subcommand name) = none
step s leaf position h walks.value =
    maybe _ (arg_by_index s.rules position) (stray_fault s)
    (λ a. choice (is_pending a h.pending && takes_several a) [] _ none (settle s.rules s.args_override_self h)) (stray s leaf)

turn : (s : Shape) → s.is_leaf ≡ true → (w : Walk) (word : Text) → Single (turn_fault s [] w word)
turn s leaf w word =
    let met = word_met s.rules [] w.is_trailing w.waiting w.position word w.held in
    choice (is_some w.stopped) [] _ none
    (or (word_fault s [] w.is_trailing w.waiting word w.held) (step_fault s w.position met.0 met.1)
    (choice w.is_trailing [] _ none (other s w.waiting word w.held)) (step s leaf w.position met.0 met.1))

walk_ : (s : Shape) → s.is_leaf ≡ true → (w : Walk) (words : List Text) → Single (walk_fault s [] w words)
unfolding walk_fault
walk_ s leaf w [] = none
walk_ s leaf w (word ∷ rest) =
    or (turn_fault s [] w word) (walk_fault s [] (walked s.rules [] w word) rest) (turn s leaf w word)
    (walk_ s leaf (walked s.rules [] w word) rest)

-- after the walk
default_ : (rows : List Row) (a : Rule) → Single (default_fault rows a)
default_ rows a =
    choice (has_row a.id rows || is_empty a.defaults) [] _ none
    (or (request_kinds (action_of a)) (values_fault a a.defaults) (request (action_of a))
    (values a.ignore_case (parser_of_value a.parser) a.defaults))

defaults : (rows : List Row) (rules : List Rule) → Single (defaults_fault rows rules)
unfolding defaults_fault
defaults rows [] = none
defaults rows (a ∷ rest) =
    or (default_fault rows a) (defaults_fault (with_default rows a) rest) (default_ rows a) (defaults (with_default rows a) rest)

checks : (a b c : Bool) → Single (check_kinds a b c)
checks a b c =
    choice a _ _ (one kind.DisplayHelpOnMissingArgumentOrSubcommand)
    (choice b _ _ (one kind.MissingSubcommand) (where_ c kind.MissingRequiredArgument))

level : (s : Shape) → s.is_leaf ≡ true → (h : Held) (words : List Text) → Single (level_fault s [] h words false [])
level s leaf h words =
    let end = (walk s.rules [] h words).held in
    or (walk_fault s [] (walk_from h) words) _ (walk_ s leaf (walk_from h) words)
    (or [] _ none
    (or (settle_fault s.rules s.args_override_self end) _ (settle s.rules s.args_override_self end)
    (or (defaults_fault (settled s.rules end).rows s.rules) _ (defaults (settled s.rules end).rows s.rules)
    (checks _ _ _))))

-- words are refused for one cause at most
pub fault_of-single : (words : List Text) → length (fault_of app words) ≤ 1
fault_of-single words =
    subst (λ (kinds : Kinds). Single kinds) (sym (leaf_fault (built app) nothing_held words refl))
    (level (built app).top refl nothing_held words)

-- so the cause that an error names is that one
pub by_kinds-among : (words : List Text) (kinds : Kinds) (rows : List Row) (k : ErrorKind) → length kinds ≤ 1 → IsAmong k kinds
    → refused_for words k ≡ by_kinds words kinds rows
by_kinds-among words [] rows k few among = absurd among
by_kinds-among words (x ∷ []) rows k few (inl same) = ap (refused_for words) same
by_kinds-among words (x ∷ []) rows k few (inr among) = absurd among
by_kinds-among words (x ∷ y ∷ kinds) rows k few among = absurd (omega arith)
