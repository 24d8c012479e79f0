mod Taking
