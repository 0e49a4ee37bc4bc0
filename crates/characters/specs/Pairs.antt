-- An accent octet and the letter or space after it are one character, in ISO 6937 and T.61.
use Rattle.std.specs.Prelude.{ℕ, ◌+◌, ◌-◌, ◌/◌, ◌%◌, ◌<◌, ◌≡◌, Bool, cond, ◌&&◌, ◌||◌, List, [], ◌∷◌, leb, eqb, length, get_or}
use Prim.Native.Char.{code}
use Prim.Native.String.{String}
use Rattle.characters.specs.Sets.{latin1}

-- An accent's row: what it goes with (a space, where it stands alone, or a letter), and after each the character that the two are.

-- C1
abbrev pub grave : String
grave = " `AÀEÈIÌNǸOÒUÙWẀYỲaàeèiìnǹoòuùwẁyỳ"

-- C2
abbrev pub acute : String
acute = " ´AÁCĆEÉGǴIÍKḰLĹMḾNŃOÓPṔRŔSŚUÚWẂYÝZŹaácćeégǵiíkḱlĺmḿnńoópṕrŕsśuúwẃyýzź"

-- C3
abbrev pub circumflex : String
circumflex = " ^AÂCĈEÊGĜHĤIÎJĴOÔSŜUÛWŴYŶZẐaâcĉeêgĝhĥiîjĵoôsŝuûwŵyŷzẑ"

-- C4
abbrev pub tilde : String
tilde = " ~AÃEẼIĨNÑOÕUŨVṼYỸaãeẽiĩnñoõuũvṽyỹ"

-- C5
abbrev pub macron : String
macron = " ¯AĀEĒGḠIĪOŌUŪYȲaāeēgḡiīoōuūyȳ"

-- C6
abbrev pub breve : String
breve = " ˘AĂEĔGĞIĬOŎUŬaăeĕgğiĭoŏuŭ"

-- C7
abbrev pub dot_above : String
dot_above = " ˙AȦBḂCĊDḊEĖFḞGĠHḢIİMṀNṄOȮPṖRṘSṠTṪWẆXẊYẎZŻaȧbḃcċdḋeėfḟgġhḣmṁnṅoȯpṗrṙsṡtṫwẇxẋyẏzż"

-- C8 and C9
abbrev pub diaeresis : String
diaeresis = " ¨AÄEËHḦIÏOÖUÜWẄXẌYŸaäeëhḧiïoötẗuüwẅxẍyÿ"

-- CA
abbrev pub ring : String
ring = " ˚AÅUŮaåuůwẘyẙ"

-- CB
abbrev pub cedilla : String
cedilla = " ¸CÇDḐEȨGĢHḨKĶLĻNŅRŖSŞTŢcçdḑeȩgģhḩkķlļnņrŗsştţ"

-- CC
abbrev pub underline : String
underline = " _"

-- CD
abbrev pub double_acute : String
double_acute = " ˝OŐUŰoőuű"

-- CE
abbrev pub ogonek : String
ogonek = " ˛AĄEĘIĮOǪUŲaąeęiįoǫuų"

-- CF
abbrev pub caron : String
caron = " ˇAǍCČDĎEĚGǦHȞIǏKǨLĽNŇOǑRŘSŠTŤUǓZŽaǎcčdďeěgǧhȟiǐjǰkǩlľnňoǒrřsštťuǔzž"

-- an accent: its row, and its combining character, for a letter that is not in the row
pub record Accent : Type 0 where
  pub row : String
  pub combines : ℕ

abbrev pub accent : String → ℕ → Accent
accent r c = record { row = r; combines = c }

-- C0 to CF; C0 is none
abbrev pub accents : List Accent
accents =
    accent "" 0
    ∷ accent grave 0x300
    ∷ accent acute 0x301
    ∷ accent circumflex 0x302
    ∷ accent tilde 0x303
    ∷ accent macron 0x304
    ∷ accent breve 0x306
    ∷ accent dot_above 0x307
    ∷ accent diaeresis 0x308
    ∷ accent diaeresis 0x308
    ∷ accent ring 0x30A
    ∷ accent cedilla 0x327
    ∷ accent underline 0x332
    ∷ accent double_acute 0x30B
    ∷ accent ogonek 0x328
    ∷ accent caron 0x30C
    ∷ []

abbrev pub accent_at : List Accent → ℕ → Accent
accent_at [] k = accent "" 0
accent_at (x ∷ xs) k = cond (eqb k 0) x (accent_at xs (k - 1))

abbrev pub accent_of : ℕ → Accent
accent_of a = accent_at accents (a - 0xC0)

abbrev pub is_accent : ℕ → Bool
is_accent a = leb 0xC1 a && leb a 0xCF

abbrev pub is_letter : ℕ → Bool
is_letter b = (leb 0x41 b && leb b 0x5A) || (leb 0x61 b && leb b 0x7A)

-- the character after b in a row; 1 where b is not in it
abbrev pub found : ℕ → String → ℕ
found b String.[] = 1
found b (String.◌∷◌ c String.[]) = 1
found b (String.◌∷◌ c (String.◌∷◌ d rest)) = cond (eqb (code c) b) (code d) (found b rest)

-- what two octets are: 0 where they are no accent with a letter or a space; 1 where they are the letter and the combining accent; else the code point
unfoldable pub composed : ℕ → ℕ → ℕ
composed a b = cond (is_accent a && (is_letter b || eqb b 0x20)) (found b (accent_of a).row) 0

unfoldable pub combining : ℕ → ℕ
combining a = (accent_of a).combines

-- ISO 8859-1 has no accents
abbrev pub pair_of : ℕ → ℕ → ℕ → ℕ
pair_of s a b = cond (eqb s latin1) 0 (composed a b)

-- The table that the code looks pairs up in: sixteen accents by sixty-four columns, of 40 to 7F, and the first is the space's.
abbrev pub column : ℕ → ℕ
column j = cond (eqb j 0) 0x20 (0x40 + j)

pub record PairTable (table : List ℕ) : Type 0 where
  pub long : length table ≡ 1024
  pub entry : (k : ℕ) → k < 1024 → get_or table k 0 ≡ composed (0xC0 + k / 64) (column (k % 64))
