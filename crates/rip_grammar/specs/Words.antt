-- What the rules ask of a word (ECMA-262 7.6, 11, 12).
use Rattle.std.specs.Prelude.{Bool, true, false}
use Rattle.rip_base.specs.declared.operator.BinaryOperator.TheVariants as B
use Rattle.rip_base.specs.declared.operator.UnaryOperator.TheVariants as U
use Rattle.rip_grammar.specs.declared.word.Word.{Word}
use Rattle.rip_grammar.specs.declared.word.Word.TheVariants as W

-- a name or a reserved word: what may stand behind `.` and as a key (7.6)
abbrev pub is_identifier_name : Word → Bool
is_identifier_name W.Name = true
is_identifier_name W.Null = true
is_identifier_name W.True = true
is_identifier_name W.False = true
is_identifier_name W.This = true
is_identifier_name W.Function = true
is_identifier_name W.New = true
is_identifier_name W.Var = true
is_identifier_name W.If = true
is_identifier_name W.Else = true
is_identifier_name W.Do = true
is_identifier_name W.While = true
is_identifier_name W.For = true
is_identifier_name W.Continue = true
is_identifier_name W.Break = true
is_identifier_name W.Return = true
is_identifier_name W.Switch = true
is_identifier_name W.Case = true
is_identifier_name W.Default = true
is_identifier_name W.Throw = true
is_identifier_name W.Try = true
is_identifier_name W.Catch = true
is_identifier_name W.Finally = true
is_identifier_name W.Unused = true
is_identifier_name (W.Infix B.InstanceOf) = true
is_identifier_name (W.Infix B.In) = true
is_identifier_name (W.Prefix U.Delete) = true
is_identifier_name (W.Prefix U.Void) = true
is_identifier_name (W.Prefix U.TypeOf) = true
is_identifier_name _ = false

-- what may be a key of an entry (11.1.5)
abbrev pub is_key : Word → Bool
is_key W.Text = true
is_key W.Numeral = true
is_key w = is_identifier_name w

-- what is an expression alone: `this`, a name, a literal (11.1.1 to 11.1.3)
abbrev pub is_single : Word → Bool
is_single W.This = true
is_single W.Name = true
is_single W.Null = true
is_single W.True = true
is_single W.False = true
is_single W.Numeral = true
is_single W.Text = true
is_single _ = false

-- what may stand before an operand (11.4)
abbrev pub is_prefix : Word → Bool
is_prefix (W.Prefix op) = true
is_prefix (W.Step op) = true
is_prefix (W.Infix B.Add) = true
is_prefix (W.Infix B.Subtract) = true
is_prefix _ = false

-- `++` and `--`
abbrev pub is_step : Word → Bool
is_step (W.Step op) = true
is_step _ = false

-- `=` and the operators of compound assignment (11.13)
abbrev pub is_assignment : Word → Bool
is_assignment W.Assign = true
is_assignment (W.Compound op) = true
is_assignment _ = false

-- the operator `in`
abbrev pub is_in : Word → Bool
is_in (W.Infix B.In) = true
is_in _ = false

-- this is that word, of those that the tests below need
abbrev pub is_name : Word → Bool
is_name W.Name = true
is_name _ = false

-- the word is `,`
abbrev pub is_comma : Word → Bool
is_comma W.Comma = true
is_comma _ = false

-- the word is `;`
abbrev pub is_semicolon : Word → Bool
is_semicolon W.Semicolon = true
is_semicolon _ = false

-- `}`, or the end
abbrev pub is_close : Word → Bool
is_close W.CloseBrace = true
is_close W.End = true
is_close _ = false

-- `else`
abbrev pub is_else : Word → Bool
is_else W.Else = true
is_else _ = false

-- `{` and `function`, with which no expression statement begins (12.4)
abbrev pub is_no_beginning : Word → Bool
is_no_beginning W.OpenBrace = true
is_no_beginning W.Function = true
is_no_beginning _ = false
