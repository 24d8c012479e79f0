mod Soundly
