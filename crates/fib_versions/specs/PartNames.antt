-- [MS-DOC] FibRgFcLcb97 to FibRgFcLcb2007: the parts by the standard's names, without fc and lcb, in the order of their
-- pairs. Pair 87 is no part but a time, two numbers of 32 bits.
use Rattle.std.specs.Prelude.{ℕ, List, [], ◌∷◌, ◌++◌, slice_index_or, codes}

-- FibRgFcLcb97
abbrev pub names_97 : List (List ℕ)
names_97 =
    codes "StshfOrig" ∷ codes "Stshf" ∷ codes "PlcffndRef" ∷ codes "PlcffndTxt" ∷ codes "PlcfandRef" ∷
    codes "PlcfandTxt" ∷ codes "PlcfSed" ∷ codes "PlcPad" ∷ codes "PlcfPhe" ∷ codes "SttbfGlsy" ∷ codes "PlcfGlsy" ∷
    codes "PlcfHdd" ∷ codes "PlcfBteChpx" ∷ codes "PlcfBtePapx" ∷ codes "PlcfSea" ∷ codes "SttbfFfn" ∷
    codes "PlcfFldMom" ∷ codes "PlcfFldHdr" ∷ codes "PlcfFldFtn" ∷ codes "PlcfFldAtn" ∷ codes "PlcfFldMcr" ∷
    codes "SttbfBkmk" ∷ codes "PlcfBkf" ∷ codes "PlcfBkl" ∷ codes "Cmds" ∷ codes "Unused1" ∷ codes "SttbfMcr" ∷
    codes "PrDrvr" ∷ codes "PrEnvPort" ∷ codes "PrEnvLand" ∷ codes "Wss" ∷ codes "Dop" ∷ codes "SttbfAssoc" ∷
    codes "Clx" ∷ codes "PlcfPgdFtn" ∷ codes "AutosaveSource" ∷ codes "GrpXstAtnOwners" ∷ codes "SttbfAtnBkmk" ∷
    codes "Unused2" ∷ codes "Unused3" ∷ codes "PlcSpaMom" ∷ codes "PlcSpaHdr" ∷ codes "PlcfAtnBkf" ∷
    codes "PlcfAtnBkl" ∷ codes "Pms" ∷ codes "FormFldSttbs" ∷ codes "PlcfendRef" ∷ codes "PlcfendTxt" ∷
    codes "PlcfFldEdn" ∷ codes "Unused4" ∷ codes "DggInfo" ∷ codes "SttbfRMark" ∷ codes "SttbfCaption" ∷
    codes "SttbfAutoCaption" ∷ codes "PlcfWkb" ∷ codes "PlcfSpl" ∷ codes "PlcftxbxTxt" ∷ codes "PlcfFldTxbx" ∷
    codes "PlcfHdrtxbxTxt" ∷ codes "PlcffldHdrTxbx" ∷ codes "StwUser" ∷ codes "SttbTtmbd" ∷ codes "CookieData" ∷
    codes "PgdMotherOldOld" ∷ codes "BkdMotherOldOld" ∷ codes "PgdFtnOldOld" ∷ codes "BkdFtnOldOld" ∷
    codes "PgdEdnOldOld" ∷ codes "BkdEdnOldOld" ∷ codes "SttbfIntlFld" ∷ codes "RouteSlip" ∷ codes "SttbSavedBy" ∷
    codes "SttbFnm" ∷ codes "PlfLst" ∷ codes "PlfLfo" ∷ codes "PlcfTxbxBkd" ∷ codes "PlcfTxbxHdrBkd" ∷
    codes "DocUndoWord9" ∷ codes "RgbUse" ∷ codes "Usp" ∷ codes "Uskf" ∷ codes "PlcupcRgbUse" ∷ codes "PlcupcUsp" ∷
    codes "SttbGlsyStyle" ∷ codes "Plgosl" ∷ codes "Plcocx" ∷ codes "PlcfBteLvc" ∷ codes "DateTime" ∷
    codes "PlcfLvcPre10" ∷ codes "PlcfAsumy" ∷ codes "PlcfGram" ∷ codes "SttbListNames" ∷ codes "SttbfUssr" ∷ []

-- the names that FibRgFcLcb2000 adds
abbrev pub names_2000 : List (List ℕ)
names_2000 =
    codes "PlcfTch" ∷ codes "RmdThreading" ∷ codes "Mid" ∷ codes "SttbRgtplc" ∷ codes "MsoEnvelope" ∷
    codes "PlcfLad" ∷ codes "RgDofr" ∷ codes "Plcosl" ∷ codes "PlcfCookieOld" ∷ codes "PgdMotherOld" ∷
    codes "BkdMotherOld" ∷ codes "PgdFtnOld" ∷ codes "BkdFtnOld" ∷ codes "PgdEdnOld" ∷ codes "BkdEdnOld" ∷ []

-- the names that FibRgFcLcb2002 adds
abbrev pub names_2002 : List (List ℕ)
names_2002 =
    codes "Unused1" ∷ codes "PlcfPgp" ∷ codes "Plcfuim" ∷ codes "PlfguidUim" ∷ codes "AtrdExtra" ∷ codes "Plrsid" ∷
    codes "SttbfBkmkFactoid" ∷ codes "PlcfBkfFactoid" ∷ codes "Plcfcookie" ∷ codes "PlcfBklFactoid" ∷
    codes "FactoidData" ∷ codes "DocUndo" ∷ codes "SttbfBkmkFcc" ∷ codes "PlcfBkfFcc" ∷ codes "PlcfBklFcc" ∷
    codes "SttbfbkmkBPRepairs" ∷ codes "PlcfbkfBPRepairs" ∷ codes "PlcfbklBPRepairs" ∷ codes "PmsNew" ∷
    codes "ODSO" ∷ codes "PlcfpmiOldXP" ∷ codes "PlcfpmiNewXP" ∷ codes "PlcfpmiMixedXP" ∷ codes "Unused2" ∷
    codes "Plcffactoid" ∷ codes "PlcflvcOldXP" ∷ codes "PlcflvcNewXP" ∷ codes "PlcflvcMixedXP" ∷ []

-- the names that FibRgFcLcb2003 adds
abbrev pub names_2003 : List (List ℕ)
names_2003 =
    codes "Hplxsdr" ∷ codes "SttbfBkmkSdt" ∷ codes "PlcfBkfSdt" ∷ codes "PlcfBklSdt" ∷ codes "CustomXForm" ∷
    codes "SttbfBkmkProt" ∷ codes "PlcfBkfProt" ∷ codes "PlcfBklProt" ∷ codes "SttbProtUser" ∷ codes "Unused" ∷
    codes "PlcfpmiOld" ∷ codes "PlcfpmiOldInline" ∷ codes "PlcfpmiNew" ∷ codes "PlcfpmiNewInline" ∷
    codes "PlcflvcOld" ∷ codes "PlcflvcOldInline" ∷ codes "PlcflvcNew" ∷ codes "PlcflvcNewInline" ∷
    codes "PgdMother" ∷ codes "BkdMother" ∷ codes "AfdMother" ∷ codes "PgdFtn" ∷ codes "BkdFtn" ∷ codes "AfdFtn" ∷
    codes "PgdEdn" ∷ codes "BkdEdn" ∷ codes "AfdEdn" ∷ codes "Afd" ∷ []

-- the names that FibRgFcLcb2007 adds
abbrev pub names_2007 : List (List ℕ)
names_2007 =
    codes "Plcfmthd" ∷ codes "SttbfBkmkMoveFrom" ∷ codes "PlcfBkfMoveFrom" ∷ codes "PlcfBklMoveFrom" ∷
    codes "SttbfBkmkMoveTo" ∷ codes "PlcfBkfMoveTo" ∷ codes "PlcfBklMoveTo" ∷ codes "Unused1" ∷ codes "Unused2" ∷
    codes "Unused3" ∷ codes "SttbfBkmkArto" ∷ codes "PlcfBkfArto" ∷ codes "PlcfBklArto" ∷ codes "ArtoData" ∷
    codes "Unused4" ∷ codes "Unused5" ∷ codes "Unused6" ∷ codes "OssTheme" ∷ codes "ColorSchemeMapping" ∷ []

-- all of them
abbrev pub all_names : List (List ℕ)
all_names = names_97 ++ (names_2000 ++ (names_2002 ++ (names_2003 ++ names_2007)))

-- the name of the part of pair n
abbrev pub name_of_part : ℕ → List ℕ
name_of_part n = slice_index_or all_names n (codes "Unknown")
